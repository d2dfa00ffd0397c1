-- Laws of value sets: which numbers are members, and when two sets are equal.
use Rattle.std.proofs.Common.{◌≡◌, ℕ, ◌+◌, Bool, true, false, ◌&&◌, ◌||◌, ◌==◌, cond, Decides, List, ◌∷◌, zero, suc, nat_eq, filter, refl, ap, sym, ◌∙◌, arith, inl, inr}
use Rattle.std.specs.List.{range_with_len, list_any}
use Rattle.std.specs.Ordering.{nat_cmp, eq_by_cmp}
use Rattle.std.specs.FinSet as set
use Rattle.std.specs.Cmp.{nat_cmp_total, unsigned_tied}
use Rattle.std.specs.Cmp.Lexicographic.{pointwise, bytes_decides}
use Rattle.std.proofs.lemmas.Bool.{cases_order}
use Rattle.std.proofs.lemmas.Bool.Decides.{nat_tests}
use Rattle.plan_sets.specs.Values.{Values, has_value, is_among, listing, values_where, no_values, with_value}

any_by_test :
    (b : Bool) (x v : ℕ) (xs : List ℕ) →
    list_any (λ y. nat_eq y v) (cond b (x ∷ xs) xs) ≡ ((b && nat_eq x v) || list_any (λ y. nat_eq y v) xs)
any_by_test true x v xs = refl
any_by_test false x v xs = refl

first_or_later :
    (test : ℕ → Bool) (lo n v : ℕ) →
    ((test lo && nat_eq lo v) || (is_among (lo + 1) n v && test v)) ≡ (is_among lo (suc n) v && test v)
first_or_later test lo n v =
    elim (cases_order lo v) [
      | inl same ↦ rw same (grind (arith, nat_tests))
      | inr apart ↦ grind (arith, nat_tests)
    ]

pub any_in_range :
    (test : ℕ → Bool) (lo n v : ℕ) → list_any (λ y. nat_eq y v) (filter test (range_with_len lo n)) ≡ (is_among lo n v && test v)
any_in_range test lo zero v = grind (arith, nat_tests)
any_in_range test lo (suc n) v =
    any_by_test (test lo) lo v (filter test (range_with_len (lo + 1) n))
    ∙ ap (λ b. (test lo && nat_eq lo v) || b) (any_in_range test (lo + 1) n v)
    ∙ first_or_later test lo n v

-- a number is a member exactly if it is in the span and passes the test
pub has_value-values_where : (lo n : ℕ) (test : ℕ → Bool) (v : ℕ) → has_value (values_where lo n test) v ≡ (is_among lo n v && test v)
unfolding values_where
has_value-values_where lo n test v =
    set.contains-from_list_nat (filter test (range_with_len lo n)) v ∙ any_in_range test lo n v

pub base-values_where : (lo n : ℕ) (test : ℕ → Bool) → (values_where lo n test).base ≡ lo
unfolding values_where
base-values_where lo n test = refl

-- two sets are equal if they have the same base and the same members
pub same_values : (s t : Values) → s.base ≡ t.base → ((v : ℕ) → has_value s v ≡ has_value t v) → s ≡ t
same_values s t bases members =
    let same_members : s.members ≡ t.members = set.same_set nat_cmp_total set.nat_cmp-IsAntisymmetric s.members t.members members in
    λ i. record { base = bases i; members = same_members i }

-- the members of the set with one more value are that value and the old members
pub has_value-with_value : (s : Values) (v u : ℕ) → has_value (with_value s v) u ≡ (nat_eq u v || has_value s u)
has_value-with_value s v u = set.contains-insert nat_cmp_total s.members v u ∙ ap (λ b. b || has_value s u) (unsigned_tied u v)

pub has_value-no_values : (lo u : ℕ) → has_value (no_values lo) u ≡ false
has_value-no_values lo u = set.contains-empty nat_cmp u

-- equal listings have the same heads and the same tails
heads : (x y : ℕ) (xs ys : List ℕ) → x ∷ xs ≡ y ∷ ys → x ≡ y
heads x y xs ys e = cc

tails : (x y : ℕ) (xs ys : List ℕ) → x ∷ xs ≡ y ∷ ys → xs ≡ ys
tails x y xs ys e = cc

same_from_listing : (s t : Values) → listing s ≡ listing t → s ≡ t
same_from_listing s t e =
    same_values s t (heads _ _ _ _ e)
    (λ v. set.contains-items s.members v ∙ ap (λ xs. list_any (eq_by_cmp nat_cmp v) xs) (tails _ _ _ _ e) ∙ sym
    (set.contains-items t.members v))

-- the test of two listings decides whether the sets are equal
pub Decides-listing : (s t : Values) → Decides (pointwise ◌==◌ (listing s) (listing t)) (s ≡ t)
Decides-listing s t =
    let d = bytes_decides (listing s) (listing t) in
    (λ yes. same_from_listing s t (d.0 yes), λ same. d.1 (ap listing same))
