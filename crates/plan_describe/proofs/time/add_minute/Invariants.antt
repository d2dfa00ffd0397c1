use Rattle.std.proofs.Common.{◌≡◌, ◌+◌, ◌*◌, ◌++◌, map, take}
use Rattle.plan_describe.specs.TimeSaid.{time_at_second}
use Rattle.plan_describe.proofs.time.add_minute.Given as goal

abbrev pub invariant-loop-second : goal.invariant-loop-second
invariant-loop-second l =
    l.times.items ≡ l.initial.times.items ++ map (λ s. time_at_second (3600 * l.hour + (60 * l.minute + s))) (take l.second-index l.seconds)
