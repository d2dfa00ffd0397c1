-- How texts are shown that are one after the other: each by itself.
use Rattle.std.proofs.Common.{◌≡◌, ℕ, List, [], ◌∷◌, ◌++◌, codes, refl, ap, ◌∙◌, append_assoc}
use Rattle.std.proofs.lemmas.Grind.{flat_map-append}
use Rattle.std.proofs.lemmas.Str.{chars-append}
use Rattle.std.specs.List.{flat_map}
use Rattle.std.specs.Str.{IsUtf8, chars}
use Rattle.plan_write.specs.Shown.{shown, shown_char}
use Rattle.agenda_machine.specs.Paths.{below}

-- the slash is shown as it is
slash : (path : List ℕ) → shown (codes "/" ++ path) ≡ codes "/" ++ shown path
unfolding shown shown_char chars lib.Utf8.encode
slash [] = refl
slash (b ∷ path) = refl

-- two texts
pub shown_both : (a b : List ℕ) → IsUtf8 a → shown (a ++ b) ≡ shown a ++ shown b
unfolding shown
shown_both a b utf8 = ap (λ cs. flat_map shown_char cs) (chars-append a b utf8) ∙ flat_map-append shown_char (chars a) (chars b)

-- three texts
pub shown_three : (a b c : List ℕ) → IsUtf8 a → IsUtf8 b → shown (a ++ b ++ c) ≡ shown a ++ (shown b ++ shown c)
shown_three a b c first second =
    ap shown (append_assoc a b c) ∙ shown_both a (b ++ c) first ∙ ap (λ text. shown a ++ text) (shown_both b c second)

-- a path below a root
pub shown_below : (root path : List ℕ) → IsUtf8 root → shown (below root path) ≡ shown root ++ (codes "/" ++ shown path)
shown_below root path utf8 = shown_both root (codes "/" ++ path) utf8 ∙ ap (λ text. shown root ++ text) (slash path)
