use Rattle.std.proofs.Common.{◌≡◌, ◌+◌, ◌*◌, ◌++◌, map, take}
use Rattle.std.specs.List.{flat_map}
use Rattle.plan_describe.specs.TimeSaid.{time_at_second}
use Rattle.plan_describe.proofs.time.add_hour.Given as goal

abbrev pub invariant-loop-minute : goal.invariant-loop-minute
invariant-loop-minute l =
    l.times.items
    ≡ l.initial.times.items
    ++ flat_map (λ m. map (λ s. time_at_second (3600 * l.hour + (60 * m + s))) l.seconds) (take l.minute-index l.minutes)
