use Rattle.std.proofs.Common.{take}
use Rattle.plan_streams.specs.Writer.{Takes}
use Rattle.plan_write.specs.Json.{json_bytes}
use Rattle.plan_write.proofs.json_strings.put_each_byte.Given as goal

-- the writer took the bytes so far
abbrev pub invariant-loop-byte : goal.invariant-loop-byte
invariant-loop-byte g l =
    Takes g.S.Stream.holds g.S.Stream.takes_all l.initial.lines l.lines (json_bytes (take l.byte-index l.text))
