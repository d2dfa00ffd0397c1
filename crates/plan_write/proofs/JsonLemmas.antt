-- Bytes of strings in JSON, for `json_strings`.
use Rattle.std.proofs.Common.{◌≡◌, ℕ, ◌≤◌, false, List, [], ◌∷◌, ◌++◌, refl, arith}
use Rattle.std.specs.List.{list_any}
use Rattle.std.proofs.lemmas.Bool.{ne_eqb, le-ltb, or_parts}
use Rattle.std.proofs.lemmas.Bool.Decides.{nat_tests}
use Rattle.plan_write.specs.Json.{is_escaped, json_byte, json_bytes}

-- a printed byte that isn't a quote or a backslash stands for itself
pub printed_byte : (b : ℕ) → (b ≡ 34 → ⊥) → (b ≡ 92 → ⊥) → (b ≡ 127 → ⊥) → 32 ≤ b → json_byte b ≡ b ∷ []
unfolding json_byte
printed_byte b no_quote no_backslash no_delete printed = grind (arith, nat_tests, ne_eqb, le-ltb)

-- a byte without an escape
pub plain_byte : (b : ℕ) → is_escaped b ≡ false → json_byte b ≡ b ∷ []
plain_byte b plain = grind (arith, nat_tests, printed_byte)

-- a text without an escape
pub plain_text : (text : List ℕ) → list_any is_escaped text ≡ false → json_bytes text ≡ text
plain_text [] plain = refl
plain_text (b ∷ text) plain =
    let (first, others) = or_parts (is_escaped b) (list_any is_escaped text) plain in
    (λ i. plain_byte b first i ++ plain_text text others i)
