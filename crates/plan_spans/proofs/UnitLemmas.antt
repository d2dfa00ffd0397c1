-- How a unit is found in the table.
-- For `longest_unit`. The code searches a table of borrowed names, the definition a table of names. In a table with longer
-- names first, the first name that fits is the longest.
use Rattle.std.proofs.Common.{◌≡◌, ℕ, ◌≤◌, arith, Bool, true, false, ◌&&◌, cond, nat_le, List, [], ◌∷◌, length, map, find, Option, Some, None, refl, sym, ◌∙◌, subst, inl, inr}
use Rattle.std.proofs.lemmas.Bool.{and_parts, leb-true, cases_Bool, false≢true}
use Rattle.std.proofs.lemmas.Bool.Decides.{nat_tests}
use Rattle.std.proofs.lemmas.List.Elements.{All-cons, All-weaker}
use Rattle.std.proofs.lemmas.List.Sums.{AllPass-from_list_all}
use Rattle.std.specs.List.{All, list_all}
use Rattle.std.specs.Option.{option_map, IfSome}

pub find-map : {X Y : Type 0} (p : Y → Bool) (v : X → Y) (xs : List X) → option_map v (find (λ x. p (v x)) xs) ≡ find p (map v xs)
find-map p v [] = refl
find-map p v (x ∷ xs) = grind (arith, nat_tests, find-map p v xs)

-- what holds of the value that is seen holds of what it is seen from
pub IfSome-seen : {X Y : Type 0} (Q : Y → Type 0) (v : X → Y) (r : Option X) (o : Option Y) → option_map v r ≡ o → IfSome o Q →
    IfSome r (λ x. Q (v x))
IfSome-seen Q v None o is holds = tt
IfSome-seen Q v (Some x) o is holds = subst (λ o. IfSome o Q) (sym is) holds

IfSome-weaker : {X : Type 0} (P Q : X → Type 0) (o : Option X) → ((x : X) → P x → Q x) → IfSome o P → IfSome o Q
IfSome-weaker P Q None weaker holds = tt
IfSome-weaker P Q (Some x) weaker holds = weaker x holds

-- what each element passes, the one that is found passes
pub IfSome-find : {X : Type 0} (p q : X → Bool) (xs : List X) → list_all q xs ≡ true → IfSome (find p xs) (λ x. q x ≡ true)
IfSome-find p q [] all = tt
IfSome-find p q (x ∷ xs) all =
    let parts = and_parts (q x) (list_all q xs) all in
    elim (p x) as (λ b. IfSome (cond b (Some x) (find p xs)) (λ y. q y ≡ true)) [ true ↦ parts.0 | false ↦ IfSome-find p q xs parts.1 ]

-- what a test of each row of a table means holds of the row that is found
pub found_passes :
    {X Y : Type 0} (p q : Y → Bool) (Q : Y → Type 0) (v : X → Y) (r : Option X) (table : List Y) → ((y : Y) → q y ≡ true → Q y) →
    list_all q table ≡ true → option_map v r ≡ find p table → IfSome r (λ x. Q (v x))
found_passes p q Q v r table means all is =
    IfSome-seen Q v r (find p table) is (IfSome-weaker (λ y. q y ≡ true) Q (find p table) means (IfSome-find p q table all))

-- a table has longer names first
abbrev pub longer_first : List (List ℕ × ℕ) → Bool
longer_first [] = true
longer_first (unit ∷ more) = list_all (λ other. nat_le (length other.0) (length unit.0)) more && longer_first more

-- no other name that fits is longer
abbrev pub IsLongest : (List ℕ × ℕ → Bool) → List (List ℕ × ℕ) → List ℕ × ℕ → Type 0
IsLongest fits table unit = All (λ other. fits other ≡ true → length other.0 ≤ length unit.0) table

-- the first name that fits is the longest
pub first_is_longest :
    (fits : List ℕ × ℕ → Bool) (table : List (List ℕ × ℕ)) → longer_first table ≡ true →
    IfSome (find fits table) (IsLongest fits table)
first_is_longest fits [] ordered = tt
first_is_longest fits (unit ∷ more) ordered =
    let parts = and_parts (list_all (λ other. nat_le (length other.0) (length unit.0)) more) (longer_first more) ordered in
    let later = first_is_longest fits more parts.1 in
    elim (cases_Bool (fits unit)) as (λ _. IfSome (cond (fits unit) (Some unit) (find fits more)) (IsLongest fits (unit ∷ more))) [
      | inl fit ↦ rw fit
          (All-cons (λ other. fits other ≡ true → length other.0 ≤ length unit.0) unit more (λ _. omega arith)
          (All-weaker (λ other. nat_le (length other.0) (length unit.0) ≡ true)
          (λ other. fits other ≡ true → length other.0 ≤ length unit.0) (λ other shorter _. leb-true _ _ shorter) more
          (AllPass-from_list_all (λ other. nat_le (length other.0) (length unit.0)) more parts.0)))
      | inr unfit ↦ rw unfit
          (IfSome-weaker (IsLongest fits more) (IsLongest fits (unit ∷ more)) (find fits more)
          (λ found longest. All-cons (λ other. fits other ≡ true → length other.0 ≤ length found.0) unit more
          (λ fit. absurd (false≢true (sym unfit ∙ fit))) longest) later)
    ]
