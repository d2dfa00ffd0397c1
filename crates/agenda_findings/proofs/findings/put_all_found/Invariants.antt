use Rattle.std.proofs.Common.{take}
use Rattle.plan_streams.specs.Writer.{Takes}
use Rattle.agenda_findings.specs.Findings.{check_text}
use Rattle.agenda_findings.proofs.findings.put_all_found.Given as goal

-- the writer took the lines of all findings so far
abbrev pub invariant-loop-one : goal.invariant-loop-one
invariant-loop-one g l =
    Takes g.S.Stream.holds g.S.Stream.takes_all l.initial.lines l.lines (check_text l.json l.paths (take l.one-index l.found))
