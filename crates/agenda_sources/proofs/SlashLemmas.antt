-- A path's last slash: for `file_name`, where the path was cut (`name_cut`) and where it has no slash (`name_uncut`).
-- By induction over the path, with `has_slash` and `file_name` unfolded. Up to the last slash there is one
-- ahead, so the definition goes on. After it there is none, so it stops.
use Rattle.std.proofs.Common.{◌≡◌, ◌≢◌, ℕ, zero, suc, ◌+◌, ◌-◌, ◌<◌, ◌==◌, true, false, List, [], ◌∷◌, length, drop, get_or, None, Some, refl, ap, sym, ◌∙◌, arith, length-drop}
use Rattle.std.proofs.lemmas.Bool.{cond-true, cond-false, or_from, or_left, or_right, eq-eqb, ne_eqb}
use Rattle.std.proofs.lemmas.List.{get_or-drop}
use Rattle.std.proofs.lemmas.Str.{len_utf8_ascii}
use Rattle.std.proofs.lemmas.Str.Pattern.{NoCharPasses-char}
use Rattle.std.specs.Str.Pattern.{RFindsChar}
use Rattle.std.specs.Path.{slash}
use Rattle.agenda_sources.specs.Name.{has_slash, file_name}

has_none : (path : List ℕ) → ((k : ℕ) → k < length path → get_or path k 0 ≢ slash) → has_slash path ≡ false
unfolding has_slash
has_none [] other = refl
has_none (byte ∷ path) other =
    or_from (byte == slash) (has_slash path) (ne_eqb byte slash (other 0 (omega arith)))
    (has_none path (λ k l. other (suc k) (omega arith)))

has_some : (path : List ℕ) (i : ℕ) → i < length path → get_or path i 0 ≡ slash → has_slash path ≡ true
unfolding has_slash
has_some [] i l is = absurd (omega arith)
has_some (byte ∷ path) zero l is = or_left (byte == slash) (has_slash path) (eq-eqb byte slash is)
has_some (byte ∷ path) (suc i) l is = or_right (byte == slash) (has_slash path) (has_some path i (omega arith) is)

name_whole : (path : List ℕ) → ((k : ℕ) → k < length path → get_or path k 0 ≢ slash) → file_name path ≡ path
unfolding file_name
name_whole [] other = refl
name_whole (byte ∷ path) other = cond-false _ _ _ (has_none (byte ∷ path) other)

name_after :
    (path : List ℕ) (i : ℕ) → i < length path → get_or path i 0 ≡ slash → ((k : ℕ) → i < k → k < length path → get_or path k 0 ≢ slash) →
    file_name path ≡ drop (suc i) path
unfolding file_name
name_after [] i l is other = absurd (omega arith)
name_after (byte ∷ path) zero l is other =
    cond-true _ _ _ (has_some (byte ∷ path) zero l is) ∙ name_whole path (λ k l. other (suc k) (omega arith) (omega arith))
name_after (byte ∷ path) (suc i) l is other =
    cond-true _ _ _ (has_some (byte ∷ path) (suc i) l is)
    ∙ name_after path i (omega arith) is (λ k a l. other (suc k) (omega arith) (omega arith))

-- the cut at the last slash finds the name
pub name_uncut : (path : List ℕ) → RFindsChar 47 path None → path ≡ file_name path
name_uncut path none = sym (name_whole path (λ k l. NoCharPasses-char 47 path k none (omega arith) l))

pub name_cut :
    (path name : List ℕ) (i j : ℕ) → RFindsChar 47 path (Some (i, j)) → name ≡ drop j path → length name + j ≡ length path →
    name ≡ file_name path
name_cut path name i j found is long =
    let next : j ≡ suc i = omega (arith, found.1.ends, len_utf8_ascii 47 (omega arith)) in
    let within : i < length path = omega arith in
    let low : 47 < 128 = omega arith in
    let later : (k : ℕ) → i < k → k < length path → get_or path k 0 ≢ slash = λ k a l e.
    let back : j + (k - j) ≡ k = omega arith in
    NoCharPasses-char 47 (drop j path) (k - j) found.0 low (omega (arith, length-drop j path))
    (get_or-drop j path (k - j) 0 ∙ ap (λ n. get_or path n 0) back ∙ e) in
    is ∙ ap (λ n. drop n path) next ∙ sym (name_after path i within (found.1.byte low) later)
