use Rattle.std.proofs.Common.{◌≡◌, ◌++◌, take}
use Rattle.std.specs.List.{flat_map}
use Rattle.agenda_table.specs.Dates.{gap_times}
use Rattle.agenda_table.specs.Keys.{keys_in}
use Rattle.agenda_table.proofs.dates.dates_of_gaps.Given as goal

-- the places of the times of the gaps so far were appended
abbrev pub invariant-loop-from : goal.invariant-loop-from
invariant-loop-from l =
    l.keys.items ≡ flat_map (keys_in l.clock) l.bounds
    ++ flat_map (keys_in l.clock) (gap_times (take l.from-index l.from-items))
