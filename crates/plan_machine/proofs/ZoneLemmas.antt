-- The name of a zone is ASCII, so it is a text.
use Rattle.std.proofs.Common.{◌≡◌, ℕ, zero, suc, ◌<◌, Bool, true, false, List, [], ◌∷◌, refl, arith}
use Rattle.std.proofs.lemmas.Bool.{and_parts}
use Rattle.std.proofs.lemmas.Bool.Decides.{nat_tests}
use Rattle.std.proofs.lemmas.Str.{IsUtf8-from_ascii}
use Rattle.std.specs.List.{list_all}
use Rattle.std.specs.Str.{IsAscii, IsUtf8}
use Rattle.plan_machine.specs.Zone.{are_parts, is_name_byte, is_zone_name}

below : (b : ℕ) → is_name_byte b ≡ true → b < 128
below b is = grind (arith, nat_tests)

each_below : (name : List ℕ) → list_all is_name_byte name ≡ true → IsAscii name
each_below [] all k = omega arith
each_below (b ∷ more) all zero = below b (and_parts (is_name_byte b) (list_all is_name_byte more) all).0
each_below (b ∷ more) all (suc k) = each_below more (and_parts (is_name_byte b) (list_all is_name_byte more) all).1 k

all_bytes : (name : List ℕ) → is_zone_name name ≡ true → list_all is_name_byte name ≡ true
unfolding is_zone_name
all_bytes name is = (and_parts (list_all is_name_byte name) (are_parts name) is).0

-- what is no text is no name of a zone
pub zone_name_is_text : (name : List ℕ) → (IsUtf8 name → ⊥) → is_zone_name name ≡ false
zone_name_is_text name other = by_test (is_zone_name name) refl
  where
    by_test : (b : Bool) → is_zone_name name ≡ b → b ≡ false
    by_test false is = refl
    by_test true is = absurd (other (IsUtf8-from_ascii name (each_below name (all_bytes name is))))
