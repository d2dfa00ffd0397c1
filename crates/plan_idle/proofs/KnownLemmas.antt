-- The mount points of a text of etc/fstab, by whether it is UTF-8: for `text_mounts`.
use Rattle.std.proofs.Common.{◌≡◌, ℕ, false, List, [], ◌∷◌, refl}
use Rattle.std.proofs.lemmas.Str.{is_utf8-from_IsUtf8}
use Rattle.std.specs.List.{filter_map}
use Rattle.std.specs.Str.{IsUtf8}
use Rattle.plan_texts.proofs.Utf8Lemmas.{no_utf8}
use Rattle.plan_texts.specs.Lines.{is_too_large, lines}
use Rattle.plan_tree.specs.Tree.{Held}
use Rattle.plan_idle.specs.Known.{mount_on, text_mounts}

pub mounts_of_text :
    (held : Held) (text : List ℕ) → is_too_large text ≡ false → IsUtf8 text → text_mounts held text ≡ filter_map (mount_on held) (lines text)
mounts_of_text held text small utf8 = rw (small, is_utf8-from_IsUtf8 text utf8) refl

pub mounts_of_other :
    (held : Held) (text : List ℕ) → is_too_large text ≡ false → (IsUtf8 text → ⊥) → text_mounts held text ≡ [] ∷ []
mounts_of_other held text small other = rw (small, no_utf8 text other) refl
