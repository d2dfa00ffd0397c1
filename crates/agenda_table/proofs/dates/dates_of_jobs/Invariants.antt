use Rattle.std.proofs.Common.{◌≡◌, ◌++◌, take}
use Rattle.std.specs.List.{flat_map}
use Rattle.agenda_table.specs.Dates.{job_times}
use Rattle.agenda_table.specs.Keys.{keys_in}
use Rattle.agenda_table.proofs.dates.dates_of_jobs.Given as goal

-- the places of the times of the starts so far were appended
abbrev pub invariant-loop-start : goal.invariant-loop-start
invariant-loop-start l =
    l.keys.items ≡ flat_map (keys_in l.clock) l.bounds
    ++ flat_map (keys_in l.clock) (job_times l.delays (take l.start-index l.starts) l.jobs)
