use Rattle.std.proofs.Common.{take}
use Rattle.std.specs.List.{flat_map}
use Rattle.plan_streams.specs.Writer.{Takes}
use Rattle.agenda_codes.specs.Texts.{code_line}
use Rattle.agenda_codes.proofs.write.write_lines.Given as goal

-- the writer took the lines of all codes so far
abbrev pub invariant-loop-code : goal.invariant-loop-code
invariant-loop-code g l =
    Takes g.S.Stream.holds g.S.Stream.takes_all l.initial.lines l.lines (flat_map code_line (take l.code-index l.codes))
