-- What follows a tab in a text that is UTF-8 is UTF-8.
use Rattle.std.proofs.Common.{◌≡◌, ℕ, List, [], ◌∷◌, ◌++◌, length, arith, refl, subst}
use Rattle.std.specs.Prelude.{slice_index}
use Rattle.std.proofs.lemmas.List.{drop_at, length-append}
use Rattle.std.proofs.lemmas.Str.{IsUtf8-drop, IsUtf8-past_char}
use Rattle.std.specs.Str.{IsCharBoundary, IsUtf8}

tab_at : (a b : List ℕ) → slice_index (a ++ 9 ∷ b) (length a) ≡ 9
tab_at [] b = refl
tab_at (x ∷ a) b = tab_at a b

boundary : (a b : List ℕ) → IsCharBoundary (a ++ 9 ∷ b) (length a)
boundary a b = (
  omega (arith, length-append a (9 ∷ b)),
  λ inside high. absurd (omega (arith, high, tab_at a b)),
)

pub utf8_after_tab : (a b : List ℕ) → IsUtf8 (a ++ 9 ∷ b) → IsUtf8 b
unfolding lib.Utf8.encode
utf8_after_tab a b utf8 =
    let back = IsUtf8-drop (a ++ 9 ∷ b) (length a) utf8 (boundary a b) in
    IsUtf8-past_char (9 ∷ b) b 9 (subst IsUtf8 (drop_at a (9 ∷ b) (length a) refl) back) refl
