use Rattle.std.proofs.Common.{take}
use Rattle.plan_streams.specs.Writer.{Takes}
use Rattle.agenda_describe.specs.Texts.{descriptions_text}
use Rattle.agenda_describe.proofs.lines.put_jobs.Given as goal

-- the writer took the lines of the jobs so far
abbrev pub invariant-loop-job : goal.invariant-loop-job
invariant-loop-job g l =
    Takes g.S.Stream.holds g.S.Stream.takes_all l.initial.lines l.lines (descriptions_text l.json (take l.job-index l.jobs))
