use Rattle.std.proofs.Common.{◌≡◌, take}
use Rattle.agenda_changes.specs.Counts.{counts_of}
use Rattle.agenda_changes.proofs.counts.counts_before.Given as goal

-- the counts of the starts so far
abbrev pub invariant-loop-place : goal.invariant-loop-place
invariant-loop-place l = l.counts.items ≡ counts_of (take l.place l.before.lines) l.firsts
