-- The days of a week are in the planner's years.
use Rattle.std.proofs.Common.{◌≡◌, ℕ, zero, suc, ◌+◌, ◌<◌, ◌≤◌, Bool, true, false, cond, List, [], ◌∷◌, map, filter, Option, refl, arith}
use Rattle.std.specs.Prelude.{nat_lt}
use Rattle.std.specs.List.{list_all, range_with_len}
use Rattle.std.proofs.lemmas.Bool.{and_from, lt-ltb}
use Rattle.plan_clock.specs.declared.row.Change.{Change}
use Rattle.plan_collect.specs.Agenda.{Planned}
use Rattle.plan_week.specs.Week.{AreInYears, day_by, day_count, days_met, is_met, starts_in, week_of}
use Rattle.plan_week.specs.declared.day.Day.{Day}

-- a test that a day passes, if it is kept, and those after it
kept : (test : Day → Bool) (is : Bool) (day : Day) (days : List Day) → test day ≡ true → list_all test days ≡ true →
    list_all test (cond is (day ∷ days) days) ≡ true
kept test true day days here later = and_from _ _ here later
kept test false day days here later = later

numbers_below :
    (starts : ℕ → Option ℕ) (top n a : ℕ) → a + n ≤ top →
    list_all (λ (day : Day). nat_lt day.number top) (filter is_met (map (day_by starts) (range_with_len a n))) ≡ true
numbers_below starts top zero a within = refl
numbers_below starts top (suc n) a within =
    kept (λ (day : Day). nat_lt day.number top) (is_met (day_by starts a)) (day_by starts a)
    (filter is_met (map (day_by starts) (range_with_len (a + 1) n))) (lt-ltb a top (omega arith))
    (numbers_below starts top n (a + 1) (omega arith))

met_below : (starts : ℕ → Option ℕ) (top : ℕ) → list_all (λ (day : Day). nat_lt day.number top) (days_met starts 0 top) ≡ true
unfolding days_met
met_below starts top = numbers_below starts top top 0 (omega arith)

-- the days of a week are in the planner's years
pub week_in_years : (clock : List Change) (made : Planned) → AreInYears (week_of clock made)
week_in_years clock made = met_below (starts_in clock made) day_count
