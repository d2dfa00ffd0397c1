use Rattle.std.proofs.Common.{◌≡◌, ◌++◌, map}
use Rattle.std.specs.Vec.Iter.{into_iter_items}
use Rattle.agenda_machine.specs.Idle.{idle_report}
use Rattle.agenda_machine.proofs.idle.reports_of.Given as goal

-- the reports so far, with those of the jobs that are left, are all
abbrev pub invariant-loop-job : goal.invariant-loop-job
invariant-loop-job l =
    l.reports.items ++ map (idle_report l.path) (into_iter_items l.job-iterator) ≡ map (idle_report l.path) l.fn.jobs.items
