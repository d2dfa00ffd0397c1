use Rattle.std.proofs.Common.{◌≡◌, take}
use Rattle.plan_changes.specs.Lines.{lines_of}
use Rattle.agenda_changes.specs.Counts.{counts_of}
use Rattle.agenda_changes.proofs.counts.counts_now.Given as goal

-- the counts of the starts so far
abbrev pub invariant-loop-start : goal.invariant-loop-start
invariant-loop-start l = l.counts.items ≡ counts_of (lines_of l.jobs (take l.start-index l.starts)) l.firsts
