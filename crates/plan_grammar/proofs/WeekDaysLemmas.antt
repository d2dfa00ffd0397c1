-- The days of a week, collected day by day.
-- For the loop of `week_days` (`day_added`, `day_passed`) and its end (`collected`). A turn is a case split on whether
-- a value is the day of the turn. At the end `week_days_of` is unfolded: two sets with the same members are equal.
use Rattle.std.proofs.Common.{◌≡◌, ℕ, ◌+◌, Bool, true, false, ◌&&◌, ◌||◌, nat_eq, nat_lt, arith}
use Rattle.std.proofs.lemmas.Bool.Decides.{nat_tests}
use Rattle.plan_sets.specs.Values.{Values, has_value, is_among}
use Rattle.plan_sets.specs.ValuesLaws.{same_values, has_value-values_where, base-values_where}
use Rattle.plan_grammar.specs.Cron.{has_week_day, week_days_of}

below : (v : ℕ) → nat_lt v 7 ≡ is_among 0 7 v
below v = grind (arith, nat_tests)

-- the written days below 7 are the days of the week
pub collected :
    (written days : Values) → days.base ≡ 0 → ((v : ℕ) → has_value days v ≡ (nat_lt v 7 && has_week_day written v)) →
    days ≡ week_days_of written
unfolding week_days_of
collected written days base members = grind (arith, nat_tests, same_values, base-values_where, has_value-values_where, below)

-- one more day, which was written
pub day_added :
    (b : Bool) (test : ℕ → Bool) (day v : ℕ) → test day ≡ true → b ≡ (nat_lt v day && test v) →
    (nat_eq v day || b) ≡ (nat_lt v (day + 1) && test v)
day_added b test day v passes is = grind (arith, nat_tests)

-- one more day, which was not written
pub day_passed :
    (b : Bool) (test : ℕ → Bool) (day v : ℕ) → test day ≡ false → b ≡ (nat_lt v day && test v) → b ≡ (nat_lt v (day + 1) && test v)
day_passed b test day v fails is = grind (arith, nat_tests)
