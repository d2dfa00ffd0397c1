use Rattle.std.proofs.Common.{take}
use Rattle.plan_streams.specs.Writer.{Takes}
use Rattle.plan_downtime.specs.Lines.{downtime_text}
use Rattle.plan_downtime.proofs.lines.put_lines.Given as goal

-- the writer took the lines of the jobs so far
abbrev pub invariant-loop-one : goal.invariant-loop-one
invariant-loop-one g l =
    Takes g.S.Stream.holds g.S.Stream.takes_all l.initial.lines l.lines
    (downtime_text l.format l.ends (take l.one-index l.missed))
