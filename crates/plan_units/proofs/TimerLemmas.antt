-- The names in a list that pass a test.
use Rattle.std.proofs.Common.{◌≡◌, ℕ, Bool, true, false, cond, filter, List, [], ◌∷◌, refl, ap, sym, ◌∙◌, subst, inl, inr}
use Rattle.std.proofs.lemmas.Bool.{or_cases, or_left, or_right}
use Rattle.std.proofs.lemmas.Slice.Eq.{bytes_eq-Decides}
use Rattle.std.specs.Str.{bytes_eq}
use Rattle.plan_tree.specs.Tree.{Held}
use Rattle.plan_units.specs.declared.paths.UnitDir.{UnitDir}
use Rattle.plan_units.specs.Reach.{AreReached, IsEachOnce, is_in}
use Rattle.plan_units.specs.Timers.{AreTimers, first_unit, is_timer}
use Rattle.plan_units.specs.Wants.{wants_of}

-- a name that is kept is in the list, and passes
from_kept :
    (p : List ℕ → Bool) (name : List ℕ) (names : List (List ℕ)) → is_in name (filter p names) ≡ true →
    (is_in name names ≡ true) × (p name ≡ true)
from_kept p name [] is = absurd (cc)
from_kept p name (first ∷ more) is = by_test (from_kept p name more) (p first) refl is
  where
    by_test :
        (is_in name (filter p more) ≡ true → (is_in name more ≡ true) × (p name ≡ true)) → (b : Bool) → p first ≡ b →
        is_in name (cond b (first ∷ filter p more) (filter p more)) ≡ true → (is_in name (first ∷ more) ≡ true) × (p name ≡ true)
    by_test rest_of true passes among = elim (or_cases (bytes_eq first name) (is_in name (filter p more)) among) [
      | inl same ↦ (
        or_left (bytes_eq first name) (is_in name more) same,
        sym (ap p ((bytes_eq-Decides first name).0 same)) ∙ passes,
      )
      | inr later ↦ let rest = rest_of later in (or_right (bytes_eq first name) (is_in name more) rest.0, rest.1)
    ]
    by_test rest_of false fails among = let rest = rest_of among in (or_right (bytes_eq first name) (is_in name more) rest.0, rest.1)

-- a name that is in the list and passes is kept
to_kept :
    (p : List ℕ → Bool) (name : List ℕ) (names : List (List ℕ)) → is_in name names ≡ true → p name ≡ true →
    is_in name (filter p names) ≡ true
to_kept p name [] is passes = absurd (cc)
to_kept p name (first ∷ more) is passes = by_test (λ later. to_kept p name more later passes) (p first) refl
  where
    by_test :
        (is_in name more ≡ true → is_in name (filter p more) ≡ true) → (b : Bool) → p first ≡ b →
        is_in name (cond b (first ∷ filter p more) (filter p more)) ≡ true
    by_test rest_of true here = elim (or_cases (bytes_eq first name) (is_in name more) is) [
      | inl same ↦ or_left (bytes_eq first name) (is_in name (filter p more)) same
      | inr later ↦ or_right (bytes_eq first name) (is_in name (filter p more)) (rest_of later)
    ]
    by_test rest_of false here = elim (or_cases (bytes_eq first name) (is_in name more) is) [
      | inl same ↦ let fails : p name ≡ false = sym (ap p ((bytes_eq-Decides first name).0 same)) ∙ here in absurd (cc)
      | inr later ↦ rest_of later
    ]

not_kept :
    (p : List ℕ → Bool) (name : List ℕ) (names : List (List ℕ)) → is_in name names ≡ false → is_in name (filter p names) ≡ false
not_kept p name names out = by_test (is_in name (filter p names)) refl
  where
    by_test : (b : Bool) → is_in name (filter p names) ≡ b → b ≡ false
    by_test false is = refl
    by_test true is = let among : is_in name names ≡ true = (from_kept p name names is).0 in absurd (cc)

kept_once : (p : List ℕ → Bool) (names : List (List ℕ)) → IsEachOnce names → IsEachOnce (filter p names)
kept_once p [] once = tt
kept_once p (first ∷ more) once = by_test (kept_once p more once.1) (p first)
  where
    by_test : IsEachOnce (filter p more) → (b : Bool) → IsEachOnce (cond b (first ∷ filter p more) (filter p more))
    by_test rest true = (not_kept p first more once.0, rest)
    by_test rest false = rest

pub timers_of_reached :
    (held : Held) (dirs : List UnitDir) (first : List ℕ) (names : List (List ℕ)) → first ≡ first_unit →
    AreReached (wants_of held dirs) first names → AreTimers held dirs (filter is_timer names)
timers_of_reached held dirs first names is all =
    let reached = subst (λ unit. AreReached (wants_of held dirs) unit names) is all in (
      λ name. (
        λ among. let both = from_kept is_timer name names among in ((reached.0 name).0 both.0, both.1),
        λ both. to_kept is_timer name names ((reached.0 name).1 both.0) both.1,
      ),
      kept_once is_timer names reached.1,
    )
