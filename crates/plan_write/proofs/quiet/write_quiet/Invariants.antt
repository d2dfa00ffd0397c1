use Rattle.std.proofs.Common.{◌≡◌, ◌≤◌, ◌++◌, ℕ, List, drop}
use Rattle.plan_sets.specs.Limits.{end_second}
use Rattle.plan_streams.specs.Writer.{Takes}
use Rattle.plan_write.specs.Quiet.{quiet_text}
use Rattle.plan_write.proofs.QuietLemmas.{text_left}
use Rattle.plan_write.proofs.quiet.write_quiet.Given as goal

-- the writer took the gaps before the reach, and those after it are left
abbrev pub invariant-loop-entry : goal.invariant-loop-entry
invariant-loop-entry g l =
    ((taken : List ℕ) × Takes g.S.Stream.holds g.S.Stream.takes_all l.initial.lines l.lines taken
    × (taken ++ text_left l.format l.least l.jobs l.reach l.upto (drop l.entry-index l.entries)
    ≡ quiet_text l.format l.least l.agenda l.jobs))
    × (l.reach ≤ end_second)
