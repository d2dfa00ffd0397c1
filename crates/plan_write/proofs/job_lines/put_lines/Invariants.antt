use Rattle.std.proofs.Common.{take}
use Rattle.plan_streams.specs.Writer.{Takes}
use Rattle.plan_write.specs.Upcoming.{upcoming_text}
use Rattle.plan_write.proofs.job_lines.put_lines.Given as goal

-- the writer took the lines of all starts so far
abbrev pub invariant-loop-start : goal.invariant-loop-start
invariant-loop-start g l =
    Takes g.S.Stream.holds g.S.Stream.takes_all l.initial.lines l.lines
    (upcoming_text l.format l.delays (take l.start-index l.starts) l.ends)
