use Rattle.std.proofs.Common.{◌≡◌, ◌++◌, drop}
use Rattle.plan_parts.specs.Specifiers.{slashed}
use Rattle.plan_parts.proofs.specifiers.slashed.Given as goal

abbrev pub invariant-loop-byte : goal.invariant-loop-byte
invariant-loop-byte l = l.read.items ++ slashed (drop l.byte-index l.text) ≡ slashed l.text
