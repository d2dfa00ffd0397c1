use Rattle.std.proofs.Common.{◌≡◌, ◌++◌, map}
use Rattle.std.specs.Vec.Iter.{into_iter_items}
use Rattle.plan_machine.specs.Machine.{timer_source}
use Rattle.plan_machine.proofs.machine.timer_sources.Given as goal

abbrev pub invariant-loop-timer : goal.invariant-loop-timer
invariant-loop-timer l =
    l.sources.items ++ map timer_source (into_iter_items l.timer-iterator) ≡ map timer_source l.fn.timers.items
