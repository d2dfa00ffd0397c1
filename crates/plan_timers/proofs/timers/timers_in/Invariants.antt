use Rattle.std.proofs.Common.{◌≡◌, ◌++◌, drop, filter}
use Rattle.plan_units.specs.Timers.{is_timer}
use Rattle.plan_timers.proofs.timers.timers_in.Given as goal

abbrev pub invariant-loop-name : goal.invariant-loop-name
invariant-loop-name l = l.timers.items ++ filter is_timer (drop l.name-index l.names) ≡ filter is_timer l.names
