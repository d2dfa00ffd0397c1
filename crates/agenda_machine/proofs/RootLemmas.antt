-- The root of a machine: a path without the slashes at its end.
use Rattle.std.proofs.Common.{◌≡◌, ◌≢◌, ℕ, ◌==◌, ◌&&◌, Bool, true, false, List, [], ◌∷◌, ◌++◌, ap, refl, sym, T, if◌then◌else◌}
use Rattle.std.proofs.Math.Facts.{eqb_yes}
use Rattle.std.specs.List.{list_all}
use Rattle.std.specs.Path.{slash}
use Rattle.agenda_machine.specs.Root.{root_of}

-- a slash more at the end changes nothing
all_snoc : (front : List ℕ) → list_all (λ b. b == slash) (front ++ slash ∷ []) ≡ list_all (λ b. b == slash) front
all_snoc [] = refl
all_snoc (first ∷ more) = rw (all_snoc more) refl

root_snoc : (front : List ℕ) → root_of (front ++ slash ∷ []) ≡ root_of front
unfolding root_of
root_snoc [] = refl
root_snoc (first ∷ more) = rw (all_snoc (first ∷ more), root_snoc more) refl

pub root_after : (text front : List ℕ) → text ≡ front ++ slash ∷ [] → root_of front ≡ root_of text
root_after text front is = rw is (sym (root_snoc front))

one : (flag : Bool) → (flag && true) ≡ true → T flag
one true all = tt
one false all = absurd (let no : false ≡ true = all in cc)

and_right : (a b : Bool) → (a && b) ≡ true → b ≡ true
and_right true b all = all
and_right false b all = absurd (let no : false ≡ true = all in cc)

-- a text of slashes ends with one
ends :
    (first : ℕ) (more : List ℕ) → list_all (λ b. b == slash) (first ∷ more) ≡ true →
    (front : List ℕ) × (first ∷ more ≡ front ++ slash ∷ [])
ends first [] all = let same : first ≡ slash = eqb_yes (one (first == slash) all) in ([], ap (λ b. b ∷ []) same)
ends first (next ∷ more) all =
    let rest = ends next more (and_right (first == slash) _ all) in
    (first ∷ rest.0, ap (λ tail. first ∷ tail) rest.1)

alone :
    (flag : Bool) (first : ℕ) (more : List ℕ) → flag ≡ list_all (λ b. b == slash) (first ∷ more) →
    ((front : List ℕ) → first ∷ more ≢ front ++ slash ∷ []) → more ≡ root_of more →
    first ∷ more ≡ (if flag then [] else first ∷ root_of more)
alone true first more is none same = let end = ends first more (sym is) in absurd (none end.0 end.1)
alone false first more is none same = ap (λ rest. first ∷ rest) same

pub root_alone : (text : List ℕ) → ((front : List ℕ) → text ≢ front ++ slash ∷ []) → text ≡ root_of text
unfolding root_of
root_alone [] none = refl
root_alone (first ∷ more) none =
    alone (list_all (λ b. b == slash) (first ∷ more)) first more refl none
    (root_alone more (λ front is. none (first ∷ front) (ap (λ rest. first ∷ rest) is)))
