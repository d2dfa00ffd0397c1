-- Worked rows of time zones: what a clock shows, and at which seconds rules start by it (cron(8), systemd.time(7)).
-- They answer no goal of a function, but test `row_at` and `is_start`. Whether a second's civil fields match
-- needs `has_value-values_where` too.
use Rattle.std.proofs.Common.{◌≡◌, ℕ, ◌≤◌, zero, suc, ◌+◌, ◌-◌, ℤ, pos, negsuc, Bool, true, false, ◌||◌, List, [], ◌∷◌, map, codes, Ok, Err, refl, ap, sym, ◌∙◌, arith, Some, None}
use Rattle.std.specs.List.{list_any, range_with_len}
use Rattle.plan_clock.specs.declared.row.Change.{Change}
use Rattle.plan_clock.specs.Rows.{row_at, shown, size, natural, is_repeated}
use Rattle.plan_sets.specs.declared.civil.Civil.{Civil}
use Rattle.plan_sets.specs.Civil.{civil_fields}
use Rattle.plan_sets.specs.ValuesLaws.{has_value-values_where}
use Rattle.plan_match.specs.declared.rule.Rule.{Rule}
use Rattle.plan_match.specs.declared.rule.Rule.TheVariants.{Cron}
use Rattle.plan_match.specs.Heeds.{cron_heeds}
use Rattle.plan_match.specs.Zone.{rule_in}
use Rattle.plan_grammar.specs.Readings.{Reading}
use Rattle.plan_grammar.specs.Cron.{cron_reading, week_days_of}
use Rattle.plan_grammar.specs.Event.{event_rule_reading}
use Rattle.plan_next.specs.Starts.{is_start, some_between, starts_in}
use Rattle.plan_facts.proofs.OnTexts.{on_civil, on_cron, on_events}

-- Europe/Berlin in 2025: an hour ahead of UTC, two from 2025-03-30T01:00:00Z on, and one again from 2025-10-26T01:00:00Z on
abbrev berlin : List Change
berlin =
    record { second = 0; offset = pos 3_600 }
    ∷ record { second = 1_743_296_400; offset = pos 7_200 }
    ∷ record { second = 1_761_440_400; offset = pos 3_600 }
    ∷ []

-- a row lasts from its change until the next. The first change has no change before it, so the offset before it
-- is its own
rows_of_berlin : map (row_at berlin) (0 ∷ 1_743_296_399 ∷ 1_743_296_400 ∷ 1_761_440_399 ∷ 1_761_440_400 ∷ [])
    ≡ record { second = 0; before = pos 3_600; offset = pos 3_600 }
    ∷ record { second = 0; before = pos 3_600; offset = pos 3_600 }
    ∷ record { second = 1_743_296_400; before = pos 3_600; offset = pos 7_200 }
    ∷ record { second = 1_743_296_400; before = pos 3_600; offset = pos 7_200 }
    ∷ record { second = 1_761_440_400; before = pos 7_200; offset = pos 3_600 }
    ∷ []
unfolding row_at
rows_of_berlin = refl

-- without a change, and before the first, a clock shows UTC
rows_of_utc : row_at [] 1_743_296_400 ∷ row_at (record { second = 60; offset = negsuc 3_599 } ∷ []) 59 ∷ []
    ≡ record { second = 0; before = pos 0; offset = pos 0 }
    ∷ record { second = 0; before = pos 0; offset = pos 0 }
    ∷ []
unfolding row_at
rows_of_utc = refl

-- the clock goes forward an hour in March, and back in October
sizes : map (λ n. size (row_at berlin n)) (0 ∷ 1_743_296_400 ∷ 1_761_440_400 ∷ []) ≡ pos 0 ∷ pos 3_600 ∷ negsuc 3_599 ∷ []
unfolding row_at
sizes = refl

-- the civil fields that the clock shows at a second
abbrev shown_in_berlin : ℕ → Civil
shown_in_berlin n = civil_fields (natural (shown (row_at berlin n) n))

-- Sunday 2025-03-30: after 01:59:59 comes 03:00:00
over_the_gap : map shown_in_berlin (1_743_296_399 ∷ 1_743_296_400 ∷ [])
    ≡ record { year = 2025; month = 3; day = 30; weekday = 6; hour = 1; minute = 59; second = 59 }
    ∷ record { year = 2025; month = 3; day = 30; weekday = 6; hour = 3; minute = 0; second = 0 }
    ∷ []
unfolding on_civil row_at
over_the_gap = refl

-- Sunday 2025-10-26: after 02:59:59 comes 02:00:00, and 02:30:00 is shown twice
over_the_fold : map shown_in_berlin (1_761_438_600 ∷ 1_761_440_399 ∷ 1_761_440_400 ∷ 1_761_442_200 ∷ [])
    ≡ record { year = 2025; month = 10; day = 26; weekday = 6; hour = 2; minute = 30; second = 0 }
    ∷ record { year = 2025; month = 10; day = 26; weekday = 6; hour = 2; minute = 59; second = 59 }
    ∷ record { year = 2025; month = 10; day = 26; weekday = 6; hour = 2; minute = 0; second = 0 }
    ∷ record { year = 2025; month = 10; day = 26; weekday = 6; hour = 2; minute = 30; second = 0 }
    ∷ []
unfolding on_civil row_at
over_the_fold = refl

-- from the change in October on, the clock repeats for an hour what it showed; after the change in March it
-- repeats nothing
repeated : map (λ n. is_repeated (row_at berlin n) n)
    (1_743_296_399 ∷ 1_743_296_400 ∷ 1_761_440_399 ∷ 1_761_440_400 ∷ 1_761_442_200 ∷ 1_761_443_999 ∷ 1_761_444_000 ∷ [])
    ≡ false ∷ false ∷ false ∷ true ∷ true ∷ true ∷ false ∷ []
unfolding row_at
repeated = refl

-- whether a text is a rule that starts at a second by a clock
abbrev starts_by : List Change → Reading Rule → ℕ → Bool
starts_by clock (Ok rule) n = is_start (rule_in clock rule) n
starts_by clock (Err fault) n = false

-- a job at a particular time starts at the first of two seconds that show it: 00:30:00Z, not 01:30:00Z
fixed_time_in_a_fold :
    map (starts_by berlin (cron_reading (codes "30 2 * * *"))) (1_761_438_600 ∷ 1_761_442_200 ∷ 1_761_528_600 ∷ []) ≡
    true ∷ false ∷ true ∷ []
unfolding on_cron on_civil week_days_of row_at starts_in
fixed_time_in_a_fold = simp has_value-values_where

-- a wildcard rule starts at both: 00:30:00Z and 01:30:00Z
wildcard_in_a_fold :
    map (starts_by berlin (cron_reading (codes "30 * * * *"))) (1_761_438_600 ∷ 1_761_442_200 ∷ 1_761_440_400 ∷ []) ≡
    true ∷ true ∷ false ∷ []
unfolding on_cron on_civil week_days_of row_at starts_in
wildcard_in_a_fold = simp has_value-values_where

-- a wildcard rule doesn't make up for what a gap skips: it starts at 2025-03-31T00:00:00Z, not at 2025-03-30T01:00:00Z
wildcard_in_a_gap :
    map (starts_by berlin (cron_reading (codes "*/20 2 * * *"))) (1_743_296_400 ∷ 1_743_379_200 ∷ []) ≡ false ∷ true ∷ []
unfolding on_cron on_civil week_days_of row_at starts_in
wildcard_in_a_gap = simp has_value-values_where

or_right : (a b : Bool) → b ≡ true → (a || b) ≡ true
or_right true b is = refl
or_right false b is = is

range_holds : (test : ℕ → Bool) (k a n : ℕ) → test (a + k) ≡ true → list_any test (range_with_len a (suc (k + n))) ≡ true
range_holds test zero a n is =
    let place : a + 0 ≡ a = omega arith in
    let here : test a ≡ true = ap test (sym place) ∙ is in
    rw here refl
range_holds test (suc k) a n is =
    let more : suc k + n ≡ suc (k + n) = omega arith in
    let place : a + suc k ≡ a + 1 + k = omega arith in
    or_right (test a) _ (rw more (range_holds test k (a + 1) n (ap test (sym place) ∙ is)))

-- one skipped second that passes the test is enough
skipped : (test : ℕ → Bool) (a m b : ℕ) → a ≤ m → m ≤ b → test m ≡ true → some_between test (pos a) (pos b) ≡ true
unfolding some_between
skipped test a m b low high is =
    let all : b + 1 - a ≡ suc (m - a + (b - m)) = omega arith in
    let place : a + (m - a) ≡ m = omega arith in
    rw all (range_holds test (m - a) a (b - m) (ap test place ∙ is))

-- a job at a particular time that a gap skips starts when the clock goes forward, at 2025-03-30T01:00:00Z: 02:30 is skipped
half_past_two_in_a_gap : starts_by berlin (cron_reading (codes "30 2 * * *")) 1_743_296_400 ≡ true
unfolding on_cron on_civil week_days_of row_at starts_in
half_past_two_in_a_gap = skipped _ 1_743_300_000 1_743_301_800 1_743_303_600 (omega arith) (omega arith) (simp has_value-values_where)

-- so does one with several times in the gap
fixed_times_in_a_gap : starts_by berlin (cron_reading (codes "0-59/20 2 * * *")) 1_743_296_400 ≡ true
unfolding on_cron on_civil week_days_of row_at starts_in
fixed_times_in_a_gap = skipped _ 1_743_300_000 1_743_300_000 1_743_303_600 (omega arith) (omega arith) (simp has_value-values_where)

-- it starts once, not at 01:20:00Z or 01:40:00Z too; the next start is 2025-03-31T00:00:00Z
after_the_gap :
    map (starts_by berlin (cron_reading (codes "0-59/20 2 * * *")))
    (1_743_297_600 ∷ 1_743_298_800 ∷ 1_743_379_200 ∷ 1_743_379_500 ∷ []) ≡ false ∷ false ∷ true ∷ false ∷ []
unfolding on_cron on_civil week_days_of row_at starts_in
after_the_gap = simp has_value-values_where

-- Antarctica/Casey: eight hours ahead of UTC, eleven from 2009-10-17T18:00:00Z on, and eight again from 2010-03-04T15:00:00Z on
abbrev casey : List Change
casey =
    record { second = 0; offset = pos 28_800 }
    ∷ record { second = 1_255_802_400; offset = pos 39_600 }
    ∷ record { second = 1_267_714_800; offset = pos 28_800 }
    ∷ []

-- a gap of three hours isn't made up for: 02:00 of 2009-10-18 is skipped, and 2009-10-18T15:00:00Z is 02:00 of the 19th
three_hours_forward : map (starts_by casey (cron_reading (codes "0 2 * * *"))) (1_255_802_400 ∷ 1_255_878_000 ∷ []) ≡ false ∷ true ∷ []
unfolding on_cron on_civil week_days_of row_at starts_in
three_hours_forward = simp has_value-values_where

-- a fold of three hours isn't run again: 01:59 of 2010-03-05 is shown at 2010-03-04T14:59:00Z, and again at 17:59:00Z
three_hours_back :
    map (starts_by casey (cron_reading (codes "59 1 * * *"))) (1_267_714_740 ∷ 1_267_725_540 ∷ 1_267_811_940 ∷ []) ≡
    true ∷ false ∷ true ∷ []
unfolding on_cron on_civil week_days_of row_at starts_in
three_hours_back = simp has_value-values_where

-- whether a text is a rule that heeds a change of that size
abbrev heeds : Reading Rule → ℤ → Bool
heeds (Ok (Cron rule)) change = cron_heeds rule (record { second = 0; before = pos 0; offset = change })
heeds other change = false

-- a job at a particular time heeds folds of at most three hours, and gaps of less
heeded_sizes :
    map (heeds (cron_reading (codes "30 2 * * *")))
    (negsuc 10_800 ∷ negsuc 10_799 ∷ negsuc 0 ∷ pos 0 ∷ pos 1 ∷ pos 10_799 ∷ pos 10_800 ∷ []) ≡
    false ∷ true ∷ true ∷ false ∷ true ∷ true ∷ false ∷ []
unfolding on_cron
heeded_sizes = refl

-- a wildcard rule heeds no change
unheeded_sizes : map (heeds (cron_reading (codes "30 * * * *"))) (negsuc 3_599 ∷ pos 3_600 ∷ []) ≡ false ∷ false ∷ []
unfolding on_cron
unheeded_sizes = refl

-- a clock that shows UTC until 1970-01-01T01:00:00Z, and then goes two minutes forward
abbrev two_minutes : List Change
two_minutes = record { second = 0; offset = pos 0 } ∷ record { second = 3_600; offset = pos 120 } ∷ []

-- then jobs at 01:00 and 01:01 start, since these are skipped, and jobs at 01:02, which is shown, but none at
-- 00:59 or 01:03. Of wildcard rules only one that matches 01:02 starts
at_the_gap : map (λ text. starts_by two_minutes (cron_reading text) 3_600)
    (codes "0 1 * * *"
    ∷ codes "1 1 * * *"
    ∷ codes "2 1 * * *"
    ∷ codes "59 0 * * *"
    ∷ codes "3 1 * * *"
    ∷ codes "1 * * * *"
    ∷ codes "2 * * * *"
    ∷ [])
    ≡ true ∷ true ∷ true ∷ false ∷ false ∷ false ∷ true ∷ []
unfolding on_cron on_civil week_days_of row_at starts_in some_between
at_the_gap = simp has_value-values_where

-- a calendar event starts at the first of two seconds that show its time
event_in_a_fold :
    map (starts_by berlin (event_rule_reading None (codes "02:30"))) (1_761_438_600 ∷ 1_761_442_200 ∷ 1_761_528_600 ∷ []) ≡
    true ∷ false ∷ true ∷ []
unfolding on_events on_civil row_at starts_in
event_in_a_fold = simp has_value-values_where

-- so an hourly one pauses for an hour: it starts at 00:00:00Z and 02:00:00Z, not at 01:00:00Z
hourly_in_a_fold :
    map (starts_by berlin (event_rule_reading None (codes "hourly"))) (1_761_436_800 ∷ 1_761_440_400 ∷ 1_761_444_000 ∷ []) ≡
    true ∷ false ∷ true ∷ []
unfolding on_events on_civil row_at starts_in
hourly_in_a_fold = simp has_value-values_where

-- an event doesn't make up for what a gap skips: 02:30 is next shown at 2025-03-31T00:30:00Z
event_in_a_gap :
    map (starts_by berlin (event_rule_reading None (codes "02:30"))) (1_743_296_400 ∷ 1_743_298_200 ∷ 1_743_381_000 ∷ []) ≡
    false ∷ false ∷ true ∷ []
unfolding on_events on_civil row_at starts_in
event_in_a_gap = simp has_value-values_where

-- an event that names its zone starts by that zone: 02:30 in UTC
event_in_utc :
    map (starts_by berlin (event_rule_reading None (codes "02:30 UTC"))) (1_761_438_600 ∷ 1_761_442_200 ∷ 1_761_445_800 ∷ []) ≡
    false ∷ false ∷ true ∷ []
unfolding on_events on_civil row_at starts_in
event_in_utc = simp has_value-values_where

-- an event that names another zone starts by that one, whatever the zone of the rules is: 02:30 in Berlin
event_in_berlin :
    map (starts_by [] (event_rule_reading (Some (record { name = codes "Europe/Berlin"; clock = berlin } ∷ [])) (codes
    "02:30 Europe/Berlin")))
    (1_761_438_600 ∷ 1_761_442_200 ∷ 1_761_445_800 ∷ 1_761_528_600 ∷ []) ≡ true ∷ false ∷ false ∷ true ∷ []
unfolding on_events on_civil row_at starts_in
event_in_berlin = simp has_value-values_where

-- nothing starts while a clock shows a time before the first year. This clock is an hour behind UTC
before_the_years :
    map (starts_by (record { second = 0; offset = negsuc 3_599 } ∷ []) (cron_reading (codes "* * * * *"))) (0 ∷ 3_540 ∷ 3_600 ∷ []) ≡
    false ∷ false ∷ true ∷ []
unfolding on_cron on_civil week_days_of row_at starts_in
before_the_years = simp has_value-values_where

-- nor while it shows a time after the last year. This clock is an hour ahead
after_the_years :
    map (starts_by (record { second = 0; offset = pos 3_600 } ∷ []) (cron_reading (codes "* * * * *")))
    (32_503_676_340 ∷ 32_503_676_400 ∷ []) ≡ true ∷ false ∷ []
unfolding on_cron on_civil week_days_of row_at starts_in
after_the_years = simp has_value-values_where
