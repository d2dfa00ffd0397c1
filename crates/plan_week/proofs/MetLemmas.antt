-- The days of the table that are in the span are those of all years that are: for `days_of`.
use Rattle.std.proofs.Common.{◌≡◌, ◌⊎◌, ℕ, zero, suc, ◌+◌, ◌-◌, ◌*◌, ◌/◌, ◌<◌, ◌≤◌, true, false, cond, List, [], ◌∷◌, ◌++◌, map, filter, Option, Some, None, inl, inr, refl, ap, sym, ◌∙◌, arith, append-nil}
use Rattle.std.specs.Prelude.{is_some}
use Rattle.std.specs.List.{list_any, range_with_len}
use Rattle.std.proofs.lemmas.List.Elements.{filter-append}
use Rattle.plan_clock.specs.Rows.{is_bounded, row_at}
use Rattle.plan_clock.specs.declared.row.Change.{Change}
use Rattle.plan_collect.specs.Agenda.{Planned}
use Rattle.plan_sets.specs.Limits.{end_second}
use Rattle.plan_week.specs.Hours.{hour_at}
use Rattle.plan_week.specs.Table.{days_by, end_day, first_day, table_by}
use Rattle.plan_week.specs.Week.{count_of, day_by, day_count, days_met, has_hour, hours_of_day, is_met, starts_in, week_of}
use Rattle.plan_week.specs.declared.day.Day.{Day}
use Rattle.plan_week.proofs.CountLemmas.{has_hour_none}
use Rattle.plan_week.proofs.HoursLemmas.{in_table}

-- a range is cut in two
map_split :
    {X : Type 0} (f : ℕ → X) (n m k a b : ℕ) → k ≡ n + m → b ≡ a + n →
    map f (range_with_len a k) ≡ map f (range_with_len a n) ++ map f (range_with_len b m)
map_split f zero m k a b whole next =
    let e : k ≡ m = omega arith in
    let g : b ≡ a = omega arith in
    rw (e, g) refl
map_split f (suc n) m zero a b whole next = absurd (omega arith)
map_split {X} f (suc n) m (suc k) a b whole next =
    ap (λ (xs : List X). f a ∷ xs) (map_split f n m k (a + 1) b (omega arith) (omega arith))

-- no day of a range is in the span
none_met : (f : ℕ → Day) (n a : ℕ) → ((k : ℕ) → a ≤ k → k < a + n → is_met (f k) ≡ false) → filter is_met (map f (range_with_len a n)) ≡ []
none_met f zero a none = refl
none_met f (suc n) a none =
    let here : is_met (f a) ≡ false = none a (omega arith) (omega arith) in
    rw here (none_met f n (a + 1) (λ k low high. none k (omega arith) (omega arith)))

-- the days of a table that are in the span, where no other day is
days_met_within :
    (starts : ℕ → Option ℕ) (first count all : ℕ) → first + count ≤ all → ((k : ℕ) → k < first → is_met (day_by starts k) ≡ false) →
    ((k : ℕ) → first + count ≤ k → is_met (day_by starts k) ≡ false) →
    filter is_met (days_by starts first count) ≡ days_met starts 0 all
unfolding days_by days_met
days_met_within starts first count all within before after =
    let days = day_by starts in
    let middle = map days (range_with_len first count) in
    let rest = map days (range_with_len (first + count) (all - first - count)) in
    let cut = map_split days first (all - first) all 0 first (omega arith) (omega arith) in
    let more = map_split days count (all - first - count) (all - first) first (first + count) (omega arith) (omega arith) in
    let front = none_met days first 0 (λ k low high. before k (omega arith)) in
    let back = none_met days (all - first - count) (first + count) (λ k low high. after k low) in
    let whole : filter is_met (map days (range_with_len 0 all)) ≡ filter is_met middle =
    ap (filter is_met) cut
    ∙ filter-append is_met (map days (range_with_len 0 first)) (map days (range_with_len first (all - first)))
    ∙ ap (λ (xs : List Day). xs ++ filter is_met (map days (range_with_len first (all - first)))) front
    ∙ ap (filter is_met) more ∙ filter-append is_met middle rest ∙ ap (λ (xs : List Day). filter is_met middle ++ xs) back
    ∙ append-nil (filter is_met middle) in
    sym whole

none_of_hours :
    (f : ℕ → Option ℕ) (n a : ℕ) → ((k : ℕ) → a ≤ k → k < a + n → f k ≡ None) → list_any is_some (map f (range_with_len a n)) ≡ false
none_of_hours f zero a none = refl
none_of_hours f (suc n) a none =
    let here : f a ≡ None = none a (omega arith) (omega arith) in
    rw here (none_of_hours f n (a + 1) (λ k low high. none k (omega arith) (omega arith)))

-- a day none of whose hours is in the span
pub not_met :
    (starts : ℕ → Option ℕ) (number : ℕ) → ((hour : ℕ) → hour / 24 ≡ number → starts hour ≡ None) → is_met (day_by starts number) ≡ false
unfolding hours_of_day
not_met starts number none = none_of_hours (λ hour. starts (number * 24 + hour)) 24 0 (λ k low high. none (number * 24 + k) (omega arith))

-- an hour of a day that isn't in the table isn't in the span
not_shown :
    (clock : List Change) (made : Planned) (hour : ℕ) →
    ((n : ℕ) → made.span.since ≤ n → n < made.span.upto → is_bounded (row_at clock n) ≡ true) → made.span.upto ≤ end_second →
    ((first_day made.span ≤ hour / 24) × (hour / 24 < end_day made.span) → ⊥) → starts_in clock made hour ≡ None
not_shown clock made hour near years out =
    rw (has_hour_none clock made.span hour
    (λ n low high is. out (in_table clock made.span n hour (sym is) (near n low high) years low high))) refl

-- the days of the table that are in the span are the week
pub met_in_table :
    (clock : List Change) (made : Planned) →
    ((n : ℕ) → made.span.since ≤ n → n < made.span.upto → is_bounded (row_at clock n) ≡ true) → made.span.upto ≤ end_second →
    made.span.since ≤ made.span.upto → filter is_met (table_by (starts_in clock made) made.span) ≡ week_of clock made
met_in_table clock made near years ordered =
    let first = first_day made.span in
    let end = end_day made.span in
    days_met_within (starts_in clock made) first (end - first) day_count (omega arith)
    (λ k lt. not_met (starts_in clock made) k (λ hour is. not_shown clock made hour near years (λ found. (let low = found.0 in omega arith))))
    (λ k le. not_met (starts_in clock made) k (λ hour is. not_shown clock made hour near years (λ found. (let high = found.1 in omega arith))))
