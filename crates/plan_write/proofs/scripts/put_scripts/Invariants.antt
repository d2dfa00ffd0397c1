use Rattle.std.proofs.Common.{take}
use Rattle.plan_streams.specs.Writer.{Takes}
use Rattle.plan_write.specs.Scripts.{scripts_text}
use Rattle.plan_write.proofs.scripts.put_scripts.Given as goal

-- the writer took the lines of all starts so far
abbrev pub invariant-loop-start : goal.invariant-loop-start
invariant-loop-start g l =
    Takes g.S.Stream.holds g.S.Stream.takes_all l.initial.lines l.lines (scripts_text l.local (take l.start-index l.starts) l.scripts)
