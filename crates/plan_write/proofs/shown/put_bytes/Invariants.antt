use Rattle.std.proofs.Common.{take}
use Rattle.std.specs.List.{flat_map}
use Rattle.plan_streams.specs.Writer.{Takes}
use Rattle.plan_write.specs.Shown.{shown_byte}
use Rattle.plan_write.proofs.shown.put_bytes.Given as goal

-- the writer took the bytes so far
abbrev pub invariant-loop-byte : goal.invariant-loop-byte
invariant-loop-byte g l =
    Takes g.S.Stream.holds g.S.Stream.takes_all l.initial.lines l.lines (flat_map shown_byte (take l.byte-index l.bytes))
