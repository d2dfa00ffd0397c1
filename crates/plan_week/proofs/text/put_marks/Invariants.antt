use Rattle.std.proofs.Common.{take}
use Rattle.plan_streams.specs.Writer.{Takes}
use Rattle.plan_week.specs.Texts.{marks}
use Rattle.plan_week.proofs.text.put_marks.Given as goal

-- the writer took the marks of the hours so far
abbrev pub invariant-loop-hour : goal.invariant-loop-hour
invariant-loop-hour g l =
    Takes g.S.Stream.holds g.S.Stream.takes_all l.initial.lines l.lines (marks (take l.hour-index l.hours))
