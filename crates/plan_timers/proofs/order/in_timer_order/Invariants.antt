use Rattle.std.proofs.Common.{◌≡◌, ◌++◌, filter, not}
use Rattle.std.specs.Vec.Iter.{into_iter_items}
use Rattle.plan_tree.specs.Order.{sorted}
use Rattle.plan_timers.specs.Names.{has_at}
use Rattle.plan_timers.proofs.order.in_timer_order.Given as goal

abbrev pub invariant-loop-name : goal.invariant-loop-name
invariant-loop-name l = record {
  others : l.others.items ++ filter (λ name. not (has_at name)) (into_iter_items l.name-iterator)
      ≡ filter (λ name. not (has_at name)) (sorted l.fn.names.items);
  instances : l.instances.items ++ filter has_at (into_iter_items l.name-iterator) ≡ filter has_at (sorted l.fn.names.items);
}
