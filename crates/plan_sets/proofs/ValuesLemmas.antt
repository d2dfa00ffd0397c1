-- The members of a set of all numbers in its span that pass a test of their distance from the base.
-- For the functions of `ValueSet` and its `==`, where the test is that a bit is 1. All of it follows from `has_value-values_at`:
-- a member is in the span and passes. The cases are: below the base, within the span, and after it.
use Rattle.std.proofs.Common.{◌≡◌, ℕ, ◌+◌, ◌-◌, ◌<◌, ◌≤◌, Bool, true, false, ◌&&◌, ◌||◌, nat_eq, refl, ap, sym, ◌∙◌, arith, inl, inr}
use Rattle.std.specs.Ordering.{nat_cmp}
use Rattle.std.specs.FinSet as set
use Rattle.std.proofs.lemmas.Bool.{cases_lt, cases_Bool, and_left, and_right}
use Rattle.std.proofs.lemmas.Bool.Decides.{nat_tests}
use Rattle.plan_sets.specs.Items.{is_within}
use Rattle.plan_sets.specs.Limits.{set_span}
use Rattle.plan_sets.specs.Values.{Values, has_value, is_among, no_values, values_at, with_value}
use Rattle.plan_sets.specs.ValuesLaws.{same_values, base-values_where, has_value-no_values, has_value-values_where, has_value-with_value}

module _ (lo : ℕ) (test : ℕ → Bool) (s : Values) (is : values_at lo test ≡ s) where
  pub base-values_at : s.base ≡ lo
  base-values_at = ap (λ (t : Values). t.base) (sym is) ∙ base-values_where lo set_span (λ v. test (v - lo))

  pub has_value-values_at : (v : ℕ) → has_value s v ≡ (is_among lo set_span v && test (v - lo))
  has_value-values_at v =
      ap (λ t. has_value t v) (sym is) ∙ has_value-values_where lo set_span (λ u. test (u - lo)) v

  -- no number below the base is a member
  pub has_value-below : (v : ℕ) → v < lo → has_value s v ≡ false
  has_value-below v below =
      let apart : is_among lo set_span v ≡ false = grind (arith, nat_tests) in
      has_value-values_at v ∙ and_left _ _ apart

  -- a number at a distance from the base is a member if the distance passes the test
  pub has_value-distance : (k : ℕ) → k < set_span → has_value s (lo + k) ≡ test k
  has_value-distance k room =
      let place : lo + k - lo ≡ k = omega arith in
      let among : is_among lo set_span (lo + k) ≡ true = grind (arith, nat_tests) in
      has_value-values_at (lo + k) ∙ ap (λ b. b && test (lo + k - lo)) among ∙ ap test place

  -- so is any number from the base on, if nothing after the span passes
  pub has_value-from : (v : ℕ) → lo ≤ v → ((k : ℕ) → set_span ≤ k → test k ≡ false) → has_value s v ≡ test (v - lo)
  has_value-from v from past =
      elim (cases_lt v (lo + set_span)) [
        | inl before ↦
            let among : is_among lo set_span v ≡ true = grind (arith, nat_tests) in
            has_value-values_at v ∙ ap (λ b. b && test (v - lo)) among
        | inr after ↦
            let apart : is_among lo set_span v ≡ false = grind (arith, nat_tests) in
            has_value-values_at v ∙ and_left _ _ apart ∙ sym (past (v - lo) (omega arith))
      ]

  -- if no distance from v up to an end passes, there is no member between them
  pub no_value_before :
      (v end : ℕ) → ((k : ℕ) → v - lo ≤ k → k < end → test k ≡ false) → (u : ℕ) → v ≤ u → u < lo + end → has_value s u ≡ false
  no_value_before v end none u from to =
      elim (cases_lt u lo) [
        | inl below ↦ has_value-below u below
        | inr above ↦ has_value-values_at u ∙ and_right _ _ (none (u - lo) (omega arith) (omega arith))
      ]

  -- if no distance in the rest of the span passes, there is no member from v on
  pub no_value_from :
      (v end : ℕ) → set_span ≤ end → ((k : ℕ) → v - lo ≤ k → k < end → test k ≡ false) → (u : ℕ) → v ≤ u → has_value s u ≡ false
  no_value_from v end whole none u from =
      elim (cases_lt u (lo + end)) [
        | inl before ↦ no_value_before v end none u from before
        | inr past ↦
            let apart : is_among lo set_span u ≡ false = grind (arith, nat_tests) in
            has_value-values_at u ∙ and_left _ _ apart
      ]

  -- if nothing passes, the set has no member
  pub values_at-none : ((k : ℕ) → k < set_span → test k ≡ false) → s ≡ no_values s.base
  values_at-none none =
      same_values s (no_values s.base) refl
      (λ u. no_value_from 0 set_span (omega arith) (λ k _ room. none k room) u (omega arith) ∙ sym (has_value-no_values s.base u))

  -- if the set has no member, nothing passes
  pub none-values_at : s.members ≡ set.empty → (k : ℕ) → k < set_span → test k ≡ false
  none-values_at empty k room =
      sym (has_value-distance k room) ∙ ap (λ m. set.contains m (lo + k)) empty ∙ set.contains-empty nat_cmp (lo + k)

  -- a test that one more distance passes gives the set with that number added
  pub values_at-with_value :
      (v : ℕ) (more : ℕ → Bool) → lo ≤ v → v < lo + set_span → ((k : ℕ) → more k ≡ (nat_eq k (v - lo) || test k)) →
      values_at lo more ≡ with_value s v
  values_at-with_value v more from to added =
      same_values _ _ (base-values_where lo set_span (λ u. more (u - lo)) ∙ sym base-values_at)
      (λ u. has_value-values_where lo set_span (λ w. more (w - lo)) u
      ∙ ap (λ b. is_among lo set_span u && b) (added (u - lo))
      ∙ member u (test (u - lo))
      ∙ ap (λ b. nat_eq u v || b) (sym (has_value-values_at u))
      ∙ sym (has_value-with_value s v u))
    where
      member :
          (u : ℕ) (b : Bool) →
          (is_among lo set_span u && (nat_eq (u - lo) (v - lo) || b)) ≡ (nat_eq u v || (is_among lo set_span u && b))
      member u b =
          elim (cases_Bool (is_among lo set_span u)) [
            | inl among ↦ rw among (grind (arith, nat_tests))
            | inr apart ↦ rw apart (grind (arith, nat_tests))
          ]

  -- a test that the distances of a range also pass gives the set with the numbers of that range added
  pub has_value-range_more :
      (first last : ℕ) (more : ℕ → Bool) → lo ≤ first → first ≤ last → last < lo + set_span →
      ((k : ℕ) → more k ≡ (test k || is_within (first - lo) (last - lo) k)) →
      (v : ℕ) → has_value (values_at lo more) v ≡ (has_value s v || is_within first last v)
  has_value-range_more first last more from forwards to added v =
      has_value-values_where lo set_span (λ u. more (u - lo)) v
      ∙ ap (λ b. is_among lo set_span v && b) (added (v - lo))
      ∙ member (test (v - lo))
      ∙ ap (λ b. b || is_within first last v) (sym (has_value-values_at v))
    where
      member :
          (b : Bool) →
          (is_among lo set_span v && (b || is_within (first - lo) (last - lo) (v - lo)))
          ≡ ((is_among lo set_span v && b) || is_within first last v)
      member b =
          elim (cases_Bool (is_among lo set_span v)) [
            | inl among ↦
                let same : is_within (first - lo) (last - lo) (v - lo) ≡ is_within first last v = grind (arith, nat_tests) in
                rw among (ap (λ t. b || t) same)
            | inr apart ↦
                let none : is_within first last v ≡ false = grind (arith, nat_tests) in
                rw (apart, none) refl
          ]

-- two such sets with the same base are equal if the same distances within the span pass their tests
pub same_tests :
    (lo lo₂ : ℕ) (test test₂ : ℕ → Bool) (s t : Values) → values_at lo test ≡ s → values_at lo₂ test₂ ≡ t → lo ≡ lo₂ →
    ((k : ℕ) → k < set_span → test k ≡ test₂ k) → s ≡ t
same_tests lo lo₂ test test₂ s t is_s is_t bases same =
    same_values s t (base-values_at lo test s is_s ∙ bases ∙ sym (base-values_at lo₂ test₂ t is_t))
    (λ u. has_value-values_at lo test s is_s u ∙ within u ∙ ap (λ b. is_among b set_span u && test₂ (u - b)) bases ∙ sym
    (has_value-values_at lo₂ test₂ t is_t u))
  where
    within : (u : ℕ) → (is_among lo set_span u && test (u - lo)) ≡ (is_among lo set_span u && test₂ (u - lo))
    within u =
        elim (cases_Bool (is_among lo set_span u)) [
          | inl among ↦
              let room : u - lo < set_span = grind (arith, nat_tests) in
              ap (λ b. is_among lo set_span u && b) (same (u - lo) room)
          | inr apart ↦ rw apart refl
        ]
