use Rattle.std.proofs.Common.{◌≡◌, ◌++◌, string_bytes, take}
use Rattle.std.specs.List.{flat_map}
use Rattle.plan_write.specs.Shown.{shown_byte}
use Rattle.plan_write.proofs.shown.push_bytes.Given as goal

-- the text has the bytes so far
abbrev pub invariant-loop-byte : goal.invariant-loop-byte
invariant-loop-byte l = string_bytes l.whole ≡ string_bytes l.initial.whole ++ flat_map shown_byte (take l.byte-index l.bytes)
