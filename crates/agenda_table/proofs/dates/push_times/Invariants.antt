use Rattle.std.proofs.Common.{◌≡◌, ◌++◌, take}
use Rattle.std.specs.List.{flat_map}
use Rattle.agenda_table.specs.Keys.{keys_in}
use Rattle.agenda_table.proofs.dates.push_times.Given as goal

-- the places of the times so far were appended
abbrev pub invariant-loop-time : goal.invariant-loop-time
invariant-loop-time l = l.keys.items ≡ l.initial.keys.items ++ flat_map (keys_in l.clock) (take l.time-index l.times)
