use Rattle.std.proofs.Common.{◌≡◌, ◌++◌, drop, false}
use Rattle.plan_parts.specs.Specifiers.{replaced, specifier, text_for}
use Rattle.plan_parts.proofs.specifiers.replaced.Given as goal

abbrev pub invariant-loop-byte : goal.invariant-loop-byte
invariant-loop-byte l =
    l.read.items ++ replaced (λ letter. text_for (specifier l.name l.prefix l.instance letter) letter) l.marked (drop l.byte-index l.text)
    ≡ replaced (λ letter. text_for (specifier l.name l.prefix l.instance letter) letter) false l.text
