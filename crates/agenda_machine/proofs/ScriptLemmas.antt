-- A number by its text in decimal.
use Rattle.std.proofs.Common.{◌≡◌, ℕ, ◌==◌, ◌<◌, ◌^◌, Bool, true, false, List, arith, refl, sym, ap, ◌∙◌}
use Rattle.std.specs.Fmt.{decimal}
use Rattle.std.specs.Str.{bytes_eq}
use Rattle.std.proofs.lemmas.Bool.Decides.{nat_tests}
use Rattle.std.proofs.lemmas.Fmt.{decimal_injective}
use Rattle.std.proofs.lemmas.Slice.Eq.{bytes_eq-Decides}

both : (a b : Bool) → (a ≡ true → b ≡ true) → (b ≡ true → a ≡ true) → a ≡ b
both true b there back = sym (there refl)
both false true there back = back refl
both false false there back = refl

-- two numbers are the same if their texts are
pub by_number :
    (at number : ℕ) (text : List ℕ) → at < 2 ^ 32 → number < 2 ^ 32 → decimal number ≡ text →
    (at == number) ≡ bytes_eq (decimal at) text
by_number at number text small fits is =
    both (at == number) (bytes_eq (decimal at) text)
    (λ same. let equal : at ≡ number = grind (arith, nat_tests, same) in
    (bytes_eq-Decides (decimal at) text).1 (ap decimal equal ∙ is))
    (λ same. let equal : at ≡ number = decimal_injective at number (omega (arith, small)) (omega (arith, fits))
    ((bytes_eq-Decides (decimal at) text).0 same ∙ sym is) in grind (arith, nat_tests, equal))
