use Rattle.std.proofs.Common.{◌≡◌, ◌++◌, filter}
use Rattle.std.specs.Vec.Iter.{into_iter_items}
use Rattle.plan_timers.specs.Counted.{is_at}
use Rattle.plan_timers.proofs.counted.entries_at.Given as goal

abbrev pub invariant-loop-entry : goal.invariant-loop-entry
invariant-loop-entry l = l.entries.items ++ filter (is_at l.dir) (into_iter_items l.entry-iterator) ≡ filter (is_at l.dir) l.fn.found.items
