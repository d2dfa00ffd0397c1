use Rattle.std.proofs.Common.{◌≡◌, take}
use Rattle.plan_write.proofs.scripts.copies_of.Given as goal

-- copies of the texts so far
abbrev pub invariant-loop-text : goal.invariant-loop-text
invariant-loop-text l = l.copies.items ≡ take l.text-index l.texts
