use Rattle.std.proofs.Common.{◌≡◌, take}
use Rattle.plan_describe.specs.TimeSaid.{times_in}
use Rattle.plan_describe.proofs.time.times_in.Given as goal

abbrev pub invariant-loop-hour : goal.invariant-loop-hour
invariant-loop-hour l = l.times.items ≡ times_in l.seconds l.minutes (take l.hour-index l.hours)
