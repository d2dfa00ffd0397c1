use Rattle.std.proofs.Common.{take}
use Rattle.std.specs.List.{flat_map}
use Rattle.plan_streams.specs.Writer.{Takes}
use Rattle.plan_write.specs.Json.{text_in}
use Rattle.agenda_findings.specs.Quotes.{escaped}
use Rattle.agenda_findings.proofs.quotes.put_escaped.Given as goal

-- the writer took the bytes so far
abbrev pub invariant-loop-byte : goal.invariant-loop-byte
invariant-loop-byte g l =
    Takes g.S.Stream.holds g.S.Stream.takes_all l.initial.lines l.lines (text_in l.json (flat_map escaped (take l.byte-index l.text)))
