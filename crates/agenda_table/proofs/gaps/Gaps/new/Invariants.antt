use Rattle.std.proofs.Common.{◌≡◌, ◌++◌, drop}
use Rattle.plan_write.specs.Quiet.{gaps}
use Rattle.agenda_table.proofs.GapLemmas.{gaps_left}
use Rattle.agenda_table.proofs.gaps.Gaps.new.Given as goal

-- the gaps before the reach were found, and those after it are left
abbrev pub invariant-loop-entry : goal.invariant-loop-entry
invariant-loop-entry l =
    l.found ++ gaps_left l.least l.jobs l.reach l.upto (drop l.entry-index l.entries) ≡ gaps l.least l.agenda l.jobs
