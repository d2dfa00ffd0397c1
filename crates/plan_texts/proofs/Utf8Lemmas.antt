-- Which bytes are a text, and which are none.
use Rattle.std.proofs.Common.{◌≡◌, ℕ, Bool, true, false, List, refl}
use Rattle.std.proofs.lemmas.Str.{IsUtf8-from_is_utf8, is_utf8-from_IsUtf8}
use Rattle.std.specs.Str.{IsUtf8, is_utf8}

pub yes_utf8 : (bytes : List ℕ) → IsUtf8 bytes → is_utf8 bytes ≡ true
yes_utf8 bytes utf8 = is_utf8-from_IsUtf8 bytes utf8

none_by : (is : Bool) (bytes : List ℕ) → is_utf8 bytes ≡ is → (IsUtf8 bytes → ⊥) → is ≡ false
none_by true bytes utf8 other = absurd (other (IsUtf8-from_is_utf8 bytes utf8))
none_by false bytes utf8 other = refl

pub no_utf8 : (bytes : List ℕ) → (IsUtf8 bytes → ⊥) → is_utf8 bytes ≡ false
no_utf8 bytes other = none_by (is_utf8 bytes) bytes refl other
