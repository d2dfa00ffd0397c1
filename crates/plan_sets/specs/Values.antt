-- What contracts say of a value set: its base and its members.
use Rattle.std.specs.Prelude.{◌≡◌, ℕ, ◌+◌, ◌-◌, ◌<◌, ◌≤◌, Bool, true, false, ◌&&◌, nat_le, nat_lt, List, ◌∷◌, Option, Some, None, filter, refl}
use Rattle.std.specs.List.{range_with_len}
use Rattle.std.specs.Ordering.{nat_cmp}
use Rattle.std.specs.FinSet as set
use Rattle.std.specs.Coded.{Coded, code_by, coded×, coded_ℕ}
use Rattle.plan_sets.specs.Limits.{set_span}

-- a set of numbers that are at least the base
pub record Values : Type 0 where
  pub base : ℕ
  pub members : set.FinSet nat_cmp

-- a set is encoded as the pair of its parts
abbrev pub values_code : Coded Values
values_code =
    code_by (ℕ × set.FinSet nat_cmp) (coded× coded_ℕ (set.code coded_ℕ)) (λ s. (s.base, s.members))
    (λ p. record { base = p.0; members = p.1 }) (λ _. refl)

-- the base, then the members in ascending order
abbrev pub listing : Values → List ℕ
listing s = s.base ∷ set.items s.members

-- v is a member
abbrev pub has_value : Values → ℕ → Bool
has_value s v = set.contains s.members v

-- the set with this base and no member
abbrev pub no_values : ℕ → Values
no_values lo = record { base = lo; members = set.empty }

-- the set with one more value
abbrev pub with_value : Values → ℕ → Values
with_value s v = record { base = s.base; members = set.insert s.members v }

-- v is one of the `count` numbers from lo on
abbrev pub is_among : ℕ → ℕ → ℕ → Bool
is_among lo count v = nat_le lo v && nat_lt v (lo + count)

-- the set of those of the `count` numbers from lo on that pass a test
unfoldable pub values_where : ℕ → ℕ → (ℕ → Bool) → Values
values_where lo count test =
    record { base = lo; members = set.from_list (filter test (range_with_len lo count)) }

-- the set of the numbers in the span of a set with the base lo whose distance from lo passes a test
abbrev pub values_at : ℕ → (ℕ → Bool) → Values
values_at lo test = values_where lo set_span (λ v. test (v - lo))

-- no member is from v up to w, without w
abbrev pub NoValueBetween : Values → ℕ → ℕ → Type 0
NoValueBetween s v w = (u : ℕ) → v ≤ u → u < w → has_value s u ≡ false

-- the answer is the smallest member that is at least v, or None if there is none
abbrev pub IsLeastFrom : Values → ℕ → Option ℕ → Type 0
IsLeastFrom s v None = (u : ℕ) → v ≤ u → has_value s u ≡ false
IsLeastFrom s v (Some w) = (v ≤ w) × (has_value s w ≡ true) × NoValueBetween s v w
