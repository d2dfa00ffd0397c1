use Rattle.std.proofs.Common.{◌≡◌, ◌++◌, drop}
use Rattle.plan_parts.specs.Files.{texts_of}
use Rattle.plan_parts.specs.Merging.{added, merged}
use Rattle.plan_parts.proofs.merging.merged.Given as goal

abbrev pub invariant-loop-part : goal.invariant-loop-part
invariant-loop-part l = l.text.items ++ added (texts_of (drop l.part-index l.more)) ≡ merged (texts_of l.parts)
