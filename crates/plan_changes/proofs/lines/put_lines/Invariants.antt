use Rattle.std.proofs.Common.{take}
use Rattle.plan_streams.specs.Writer.{Takes}
use Rattle.plan_changes.specs.Texts.{changes_text}
use Rattle.plan_changes.proofs.lines.put_lines.Given as goal

-- the writer took the lines of the changes so far
abbrev pub invariant-loop-change : goal.invariant-loop-change
invariant-loop-change g l =
    Takes g.S.Stream.holds g.S.Stream.takes_all l.initial.lines l.lines
    (changes_text l.format l.before.lines l.now (take l.change-index l.changes))
