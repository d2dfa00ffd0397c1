use Rattle.std.proofs.Common.{◌≡◌, ◌++◌, take}
use Rattle.plan_write.specs.Json.{json_bytes}
use Rattle.plan_write.proofs.json_strings.push_bytes.Given as goal

-- the bytes so far were appended
abbrev pub invariant-loop-byte : goal.invariant-loop-byte
invariant-loop-byte l = l.text.items ≡ l.initial.text.items ++ json_bytes (take l.byte-index l.string)
