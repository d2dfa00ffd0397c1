-- The description of a rule whose sets have values is well-formed: it has no empty list.
use Rattle.std.proofs.Common.{◌≡◌, ℕ, ◌+◌, ◌-◌, ◌*◌, ◌%◌, ◌<◌, ◌≤◌, Bool, true, false, not, ◌&&◌, ◌||◌, ◌==◌, nat_le, nat_lt, if◌then◌else◌, List, [], ◌∷◌, ◌++◌, length, map, Option, Some, None, refl, ap, subst, ◌∙◌, arith}
use mathlib.Core.List.{reverse_aux}
use Rattle.std.specs.List.{flat_map, list_all, range_with_len}
use Rattle.std.proofs.lemmas.Bool.{and_from, and_parts}
use Rattle.std.proofs.lemmas.Bool.Decides.{nat_tests}
use Rattle.std.proofs.Math.Nat.{mod-eq_of_lt}
use Rattle.plan_sets.specs.Limits.{first_year, last_year}
use Rattle.plan_sets.specs.Values.{Values as SetOfValues, has_value}
use Rattle.plan_match.specs.declared.cron.CronRule.{CronRule}
use Rattle.plan_match.specs.declared.event.Calendar.{Calendar}
use Rattle.std.specs.Prelude.{IfSome}
use Rattle.plan_words.specs.declared.tree.Span.{Span}
use Rattle.plan_words.specs.declared.tree.Window.{Window}
use Rattle.plan_words.specs.Tree.{Values, Steps, Items, Cycle, Among, AllHours, HourList, Time, Listed, WholeDay, Windows, Minutes, Seconds, LastDays, FromEnd, AnyDay, OnWeekdays, OnDates, OnEither, AllMonths, MonthRun, Scheduled}
use Rattle.plan_words.specs.WellFormed.{AreDates, AreDays, AreHours, AreItems, AreMonths, AreSomeItems, AreYears, IsLead, IsTime, IsWeek, IsWellFormed, IsZone}
use Rattle.plan_describe.specs.declared.series.Series.{Series}
use Rattle.plan_describe.specs.declared.series.Series.TheVariants.{One, Even, Uneven}
use Rattle.plan_describe.specs.Numbers.{has_number, is_run, is_spaced, is_steps, is_whole, items, last_of, least_steps, members, runs, runs_after, said_run, single, steps_of, values_said, with_number}
use Rattle.plan_describe.specs.Series.{day, scaled, series_of, series_of_span, sums}
use Rattle.plan_describe.specs.TimeSaid.{are_few, cycle_or, evenly_said, hour_steps, hours_said, in_hour, is_single, is_zero, lead_said, many_said, minutes_said, or_else, step_count, step_of_runs, step_unit, time_of_windows, time_said, times_in, units_said, window, window_said, windows_after, windows_said, windows_with}
use Rattle.plan_describe.specs.DaysSaid.{both_by, dates_said, days_said, is_from_one, month_list, month_of, months_said, nth_week, places_said, turned, turned_span, week_by, week_run, week_said, year_count, years_said}
use Rattle.plan_describe.specs.Said.{cron_said, cron_weekdays, event_said, event_weekdays, is_from_end, set_members}
use Rattle.plan_match.specs.WithinLimits.{CronIsWithinLimits, EventIsWithinLimits, LieWithin}
use Rattle.plan_describe.proofs.NumbersLemmas.{AreBelow, last_after, last_below, members_below, members_have}
use Rattle.plan_describe.proofs.SeriesLemmas.{add_multiple, reached, spaced_all}

abbrev IsNonEmpty : {A : Type 0} → List A → Type 0
IsNonEmpty [] = ⊥
IsNonEmpty (x ∷ xs) = Unit {0}

append_some : {A : Type 0} (xs ys : List A) → IsNonEmpty xs → IsNonEmpty (xs ++ ys)
append_some [] ys some = absurd some
append_some (x ∷ xs) ys some = tt

-- a list with a number isn't empty
some_from : (vs : List ℕ) (u : ℕ) → has_number vs u ≡ true → IsNonEmpty vs
some_from [] u has = absurd (cc)
some_from (v ∷ vs) u has = tt

-- ---- numbers

with_some : (s : Span) (more : List Span) (v : ℕ) → IsNonEmpty (with_number (s ∷ more) v)
with_some s [] v = go (s.last + 1 == v)
  where
    go : (b : Bool) → IsNonEmpty (if b then record { first = s.first; last = v } ∷ [] else s ∷ single v ∷ [])
    go true = tt
    go false = tt
with_some s (t ∷ more) v = tt

runs_some_after : (known : List Span) (vs : List ℕ) → IsNonEmpty known → IsNonEmpty (runs_after known vs)
runs_some_after known [] some = some
runs_some_after [] (v ∷ vs) some = absurd some
runs_some_after (s ∷ more) (v ∷ vs) some = runs_some_after (with_number (s ∷ more) v) vs (with_some s more v)

runs_some : (vs : List ℕ) → IsNonEmpty vs → IsNonEmpty (runs vs)
runs_some [] some = absurd some
runs_some (v ∷ vs) some = runs_some_after (single v ∷ []) vs tt

said_some : (spans : List Span) → IsNonEmpty spans → IsNonEmpty (flat_map said_run spans)
said_some [] some = absurd some
said_some (s ∷ more) some = append_some (said_run s) (flat_map said_run more) (go (s.first + 1 == s.last))
  where
    go : (b : Bool) → IsNonEmpty (if b then single s.first ∷ single s.last ∷ [] else s ∷ [])
    go true = tt
    go false = tt

items_form : (spans : List Span) → IsNonEmpty spans → AreItems (Items spans)
items_form [] some = absurd some
items_form (s ∷ more) some = tt

values_form : (vs : List ℕ) → IsNonEmpty vs → AreItems (values_said vs)
values_form [] some = absurd some
values_form (v ∷ []) some = items_form (items (v ∷ [])) (said_some (runs (v ∷ [])) (runs_some (v ∷ []) tt))
values_form (v ∷ w ∷ more) some = go (is_steps (v ∷ w ∷ more))
  where
    go : (b : Bool) → AreItems (if b then steps_of (v ∷ w ∷ more) else Items (items (v ∷ w ∷ more)))
    go true = tt
    go false = items_form (items (v ∷ w ∷ more)) (said_some (runs (v ∷ w ∷ more)) (runs_some (v ∷ w ∷ more) tt))

-- ---- times

evenly_form : (all_hours : Bool) (s : Series) (time : Time) → evenly_said all_hours s ≡ Some time → IsTime time
evenly_form all_hours (One v) time is = absurd (cc)
evenly_form all_hours (Even f l d) time is = by_size (nat_lt l day && nat_le (f + 4 * d) l) is
  where
    by_hours : (b : Bool) → (if b then None else Some (Windows (step_count d) (step_unit d) (window f l ∷ []))) ≡ Some time → IsTime time
    by_hours true is = absurd (cc)
    by_hours false is =
        let P : Time → Type 0 = λ x. IsTime x in
        let same : Windows (step_count d) (step_unit d) (window f l ∷ []) ≡ time = cc in subst P same tt

    by_round :
        (b : Bool) →
        (if b
        then Some (WholeDay (step_count d) (step_unit d))
        else (if all_hours then None else Some (Windows (step_count d) (step_unit d) (window f l ∷ []))))
        ≡ Some time → IsTime time
    by_round true is =
        let P : Time → Type 0 = λ x. IsTime x in let same : WholeDay (step_count d) (step_unit d) ≡ time = cc in subst P same tt
    by_round false is = by_hours all_hours is

    by_size :
        (b : Bool) →
        (if b
        then (if (f == 0) && (l + d == day)
        then Some (WholeDay (step_count d) (step_unit d))
        else (if all_hours then None else Some (Windows (step_count d) (step_unit d) (window f l ∷ []))))
        else None)
        ≡ Some time → IsTime time
    by_size true is = by_round ((f == 0) && (l + d == day)) is
    by_size false is = absurd (cc)
evenly_form all_hours Uneven time is = absurd (cc)

windows_some_with :
    (d : ℕ) (hour : Series) (more : List Span) (known ws : List Window) (o : Option Window) →
    ((w : Window) → windows_after (known ++ w ∷ []) d hour more ≡ Some ws → IsNonEmpty ws) →
    windows_with known o (λ next. windows_after next d hour more) ≡ Some ws → IsNonEmpty ws
windows_some_with d hour more known ws None next is = absurd (cc)
windows_some_with d hour more known ws (Some w) next is = next w is

windows_some_after : (d : ℕ) (hour : Series) (rs : List Span) (known ws : List Window) → IsNonEmpty known →
    windows_after known d hour rs ≡ Some ws → IsNonEmpty ws
windows_some_after d hour [] known ws some is =
    let P : List Window → Type 0 = λ x. IsNonEmpty x in let same : known ≡ ws = cc in subst P same some
windows_some_after d hour (run ∷ more) known ws some is =
    windows_some_with d hour more known ws (window_said d (sums (scaled 3600 (series_of_span run)) 3600 hour))
    (λ w. windows_some_after d hour more (known ++ w ∷ []) ws (append_some known (w ∷ []) some)) is

windows_some : (d : ℕ) (hour : Series) (rs : List Span) (ws : List Window) → IsNonEmpty rs → windows_after [] d hour rs ≡ Some ws → IsNonEmpty ws
windows_some d hour [] ws some is = absurd some
windows_some d hour (run ∷ more) ws some is =
    windows_some_with d hour more [] ws (window_said d (sums (scaled 3600 (series_of_span run)) 3600 hour))
    (λ w. windows_some_after d hour more (w ∷ []) ws tt) is

windows_list_form : (d : ℕ) (ws : List Window) → IsNonEmpty ws → IsTime (Windows (step_count d) (step_unit d) ws)
windows_list_form d [] some = absurd some
windows_list_form d (w ∷ ws) some = tt

windows_form : (all_hours : Bool) (rs : List Span) (hour : Series) (time : Time) → IsNonEmpty rs → windows_said all_hours rs hour ≡ Some time → IsTime time
windows_form all_hours rs hour time some is = by_size (all_hours || (nat_lt 3 (length rs) || nat_lt 3600 (step_of_runs hour))) is
  where
    by_windows :
        (o : Option (List Window)) → windows_after [] (step_of_runs hour) hour rs ≡ o → time_of_windows (step_of_runs hour) o ≡ Some time → IsTime time
    by_windows None found is = absurd (cc)
    by_windows (Some ws) found is =
        let P : Time → Type 0 = λ x. IsTime x in
        let d = step_of_runs hour in
        let same : Windows (step_count d) (step_unit d) ws ≡ time = cc in
        subst P same (windows_list_form d ws (windows_some d hour rs ws some found))

    by_size :
        (b : Bool) →
        (if b then None else time_of_windows (step_of_runs hour) (windows_after [] (step_of_runs hour) hour rs)) ≡ Some time → IsTime time
    by_size true is = absurd (cc)
    by_size false is = by_windows (windows_after [] (step_of_runs hour) hour rs) refl is

listed_form : (seconds minutes hours : List ℕ) → IsNonEmpty seconds → IsNonEmpty minutes → IsNonEmpty hours → IsTime (Listed (times_in seconds minutes hours))
listed_form [] minutes hours a b c = absurd a
listed_form (s ∷ ss) [] hours a b c = absurd b
listed_form (s ∷ ss) (m ∷ ms) [] a b c = absurd c
listed_form (s ∷ ss) (m ∷ ms) (h ∷ hs) a b c = tt

lead_form : (values : List ℕ) → IsNonEmpty values → IsLead (lead_said values)
lead_form values some = go (scaled 1 (series_of values))
  where
    by_round : (d : ℕ) (b : Bool) → IsLead (if b then Cycle d else Among (values_said values))
    by_round d true = tt
    by_round d false = values_form values some

    go : (s : Series) → IsLead (cycle_or s (values_said values))
    go (One v) = values_form values some
    go (Even f l d) = by_round d ((f == 0) && (l + d == 60))
    go Uneven = values_form values some

minutes_form : (minutes : List ℕ) → IsNonEmpty minutes → AreSomeItems (minutes_said minutes)
minutes_form minutes some = go (is_whole 0 59 minutes)
  where
    go : (b : Bool) → AreSomeItems (if b then None else Some (values_said minutes))
    go true = tt
    go false = values_form minutes some

hours_form : (hours : List ℕ) → IsNonEmpty hours → AreHours (hours_said hours)
hours_form [] some = absurd some
hours_form (v ∷ []) some = tt
hours_form (v ∷ w ∷ more) some = by_whole (is_whole 0 23 (v ∷ w ∷ more))
  where
    by_steps : (b : Bool) → AreHours (if b then hour_steps v w more else HourList (v ∷ w ∷ more))
    by_steps true = tt
    by_steps false = tt

    by_whole :
        (b : Bool) →
        AreHours
        (if b
        then AllHours
        else (if is_run (v ∷ w ∷ more) || is_steps (v ∷ w ∷ more) then hour_steps v w more else HourList (v ∷ w ∷ more)))
    by_whole true = tt
    by_whole false = by_steps (is_run (v ∷ w ∷ more) || is_steps (v ∷ w ∷ more))

units_form : (seconds minutes hours : List ℕ) → IsNonEmpty seconds → IsNonEmpty minutes → IsNonEmpty hours → IsTime (units_said seconds minutes hours)
units_form seconds minutes hours a b c = go (is_zero seconds)
  where
    go :
        (zero : Bool) →
        IsTime
        (if zero
        then Minutes (lead_said minutes) (hours_said hours)
        else Seconds (lead_said seconds) (minutes_said minutes) (hours_said hours))
    go true = (lead_form minutes b, hours_form hours c)
    go false = (lead_form seconds a, minutes_form minutes b, hours_form hours c)

or_else_form : (o : Option Time) (later : Time) → ((time : Time) → o ≡ Some time → IsTime time) → IsTime later → IsTime (or_else o later)
or_else_form None later here there = there
or_else_form (Some time) later here there = here time refl

time_form : (seconds minutes hours : List ℕ) → IsNonEmpty seconds → IsNonEmpty minutes → IsNonEmpty hours → IsTime (time_said seconds minutes hours)
time_form seconds minutes hours a b c =
    or_else_form (evenly_said (is_whole 0 23 hours) whole)
    (if are_few seconds minutes hours
    then Listed (times_in seconds minutes hours)
    else many_said seconds minutes hours (is_whole 0 23 hours) (in_hour seconds minutes))
    (evenly_form (is_whole 0 23 hours) whole) (by_count (are_few seconds minutes hours))
  where
    whole : Series
    whole = sums (scaled 3600 (series_of hours)) 3600 (in_hour seconds minutes)

    by_single : (b : Bool) → IsTime (if b then Listed (times_in seconds minutes hours) else units_said seconds minutes hours)
    by_single true = listed_form seconds minutes hours a b c
    by_single false = units_form seconds minutes hours a b c

    by_count :
        (few : Bool) →
        IsTime
        (if few
        then Listed (times_in seconds minutes hours)
        else many_said seconds minutes hours (is_whole 0 23 hours) (in_hour seconds minutes))
    by_count true = listed_form seconds minutes hours a b c
    by_count false =
        or_else_form (windows_said (is_whole 0 23 hours) (runs hours) (in_hour seconds minutes))
        (if not (is_whole 0 23 hours) && (is_single minutes && is_single seconds)
        then Listed (times_in seconds minutes hours)
        else units_said seconds minutes hours)
        (λ time. windows_form (is_whole 0 23 hours) (runs hours) (in_hour seconds minutes) time (runs_some hours c))
        (by_single (not (is_whole 0 23 hours) && (is_single minutes && is_single seconds)))

-- ---- days

reversed_some : (xs : List Span) (y : Span) (ys : List Span) → IsNonEmpty (map turned_span (reverse_aux xs (y ∷ ys)))
reversed_some [] y ys = tt
reversed_some (x ∷ xs) y ys = reversed_some xs x (y ∷ ys)

turned_form : (values : Values) → AreItems values → AreItems (turned values)
turned_form (Steps first last step) are = tt
turned_form (Items []) are = absurd are
turned_form (Items (s ∷ more)) are = items_form (map turned_span (reverse_aux more (s ∷ []))) (reversed_some more s [])

places_form : (places : List ℕ) → IsNonEmpty places → AreDates (places_said places)
places_form [] some = absurd some
places_form (v ∷ vs) some = go (is_from_one (v ∷ vs))
  where
    go : (b : Bool) → AreDates (if b then LastDays (last_of v vs) else FromEnd (turned (values_said (v ∷ vs))))
    go true = tt
    go false = turned_form (values_said (v ∷ vs)) (values_form (v ∷ vs) some)

dates_form : (from_end : Bool) (days : List ℕ) → IsNonEmpty days → AreDates (dates_said from_end days)
dates_form true days some = places_form days some
dates_form false days some = values_form days some

week_form : (weekdays : List ℕ) → IsNonEmpty weekdays → IsWeek (week_said weekdays)
week_form [] some = absurd some
week_form (w ∷ ws) some = go (week_run (runs (w ∷ ws)))
  where
    go : (o : Option Span) → IsWeek (week_by o (w ∷ ws))
    go None = tt
    go (Some run) = tt

both_form : (o : Option ℕ) (from_end : Bool) (days weekdays : List ℕ) → IsNonEmpty days → IsNonEmpty weekdays → AreDays (both_by o from_end days weekdays)
both_form None from_end days weekdays a b = (dates_form from_end days a, week_form weekdays b)
both_form (Some k) from_end days [] a b = absurd b
both_form (Some k) from_end days (x ∷ []) a b = tt
both_form (Some k) from_end days (x ∷ y ∷ more) a b = (dates_form from_end days a, week_form (x ∷ y ∷ more) b)

days_form : (either from_end : Bool) (days weekdays : List ℕ) → IsNonEmpty days → IsNonEmpty weekdays → AreDays (days_said either from_end days weekdays)
days_form true from_end days weekdays a b = go (is_whole 1 31 days || is_whole 0 6 weekdays)
  where
    go : (every : Bool) → AreDays (if every then AnyDay else OnEither (dates_said from_end days) (week_said weekdays))
    go true = tt
    go false = (dates_form from_end days a, week_form weekdays b)
days_form false from_end days weekdays a b = go (is_whole 1 31 days) (is_whole 0 6 weekdays)
  where
    go :
        (c d : Bool) →
        AreDays
        (if c
        then (if d then AnyDay else OnWeekdays (week_said weekdays))
        else (if d then OnDates (dates_said from_end days) else both_by (nth_week days) from_end days weekdays))
    go true true = tt
    go true false = week_form weekdays b
    go false true = dates_form from_end days a
    go false false = both_form (nth_week days) from_end days weekdays a b

-- ---- months and years

months_form : (months : List ℕ) → IsNonEmpty months → AreMonths (months_said months)
months_form [] some = absurd some
months_form (v ∷ vs) some = by_whole (is_whole 1 12 (v ∷ vs))
  where
    by_run : (b : Bool) → AreMonths (if b then MonthRun (month_of v) (month_of (last_of v vs)) else month_list (v ∷ vs))
    by_run true = tt
    by_run false = tt

    by_whole :
        (b : Bool) →
        AreMonths
        (if b
        then AllMonths
        else (if is_run (v ∷ vs) then MonthRun (month_of v) (month_of (last_of v vs)) else month_list (v ∷ vs)))
    by_whole true = tt
    by_whole false = by_run (is_run (v ∷ vs))

-- the last year that the steps reach
last_reached : (first last step : ℕ) → first ≤ last → last ≤ last_year → (last - first) % step ≡ 0 → last_year < last + step →
    last ≡ last_year - (last_year - first) % step
last_reached first last step order within reaches over =
    let gap : last_year - first ≡ last - first + (last_year - last) = omega arith in
    let rest : (last_year - first) % step ≡ last_year - last =
    ap (λ x. x % step) gap ∙ add_multiple (last - first) (last_year - last) step reaches ∙ mod-eq_of_lt (omega arith) in
    omega arith

years_items_form : (spans : List Span) → IsNonEmpty spans → AreYears (Some (Items spans))
years_items_form [] some = absurd some
years_items_form (s ∷ more) some = tt

less_first : (v w : ℕ) (b : Bool) → nat_le (v + 2) w ≡ true → b ≡ true → (nat_lt v w && b) ≡ true
less_first v w b more is = and_from (nat_lt v w) b (less v w more) is
  where
    less : (v w : ℕ) → nat_le (v + 2) w ≡ true → nat_lt v w ≡ true
    less v w more = grind (arith, nat_tests)

years_values_form : (years : List ℕ) → IsNonEmpty years → AreBelow 3000 years → AreYears (Some (values_said years))
years_values_form [] some below = absurd some
years_values_form (v ∷ []) some below = years_items_form (items (v ∷ [])) (said_some (runs (v ∷ [])) (runs_some (v ∷ []) tt))
years_values_form (v ∷ w ∷ more) some below = go (is_steps (v ∷ w ∷ more)) refl
  where
    go : (b : Bool) → is_steps (v ∷ w ∷ more) ≡ b → AreYears (Some (if b then steps_of (v ∷ w ∷ more) else Items (items (v ∷ w ∷ more))))
    go true steps =
        let parts = and_parts (nat_le least_steps (length (v ∷ w ∷ more))) (nat_le (v + 2) w && is_spaced (w - v) w more) steps in
        let rest = and_parts (nat_le (v + 2) w) (is_spaced (w - v) w more) parts.1 in
        let spaced = spaced_all v w more (less_first v w (is_spaced (w - v) w more) rest.0 rest.1) in
        let last = last_below 3000 v (w ∷ more) below in
        last_reached v (last_of w more) (w - v) (last_after (w - v) v (w ∷ more) spaced) (omega arith) (reached (w - v) v (w ∷ more) spaced)
    go false steps = years_items_form (items (v ∷ w ∷ more)) (said_some (runs (v ∷ w ∷ more)) (runs_some (v ∷ w ∷ more) tt))

years_form : (test : ℕ → Bool) → IsNonEmpty (members test first_year year_count) → AreYears (years_said test)
years_form test some = go (list_all test (range_with_len first_year year_count))
  where
    go : (b : Bool) → AreYears (if b then None else Some (values_said (members test first_year year_count)))
    go true = tt
    go false = years_values_form (members test first_year year_count) some (members_below test first_year year_count 3000 (omega arith))

-- ---- rules

members_some : (first last count : ℕ) (values : SetOfValues) → last < first + count → LieWithin first last values → IsNonEmpty (set_members values first count)
members_some first last count values fits own =
    let v = own.value.0 in
    let range = own.within v own.value.1 in
    let high = range.1 in
    some_from (set_members values first count) v (members_have (has_value values) first count v range.0 (omega arith) ∙ own.value.1)

cron_weekdays_some : (values : SetOfValues) → LieWithin 0 6 values → IsNonEmpty (cron_weekdays values)
cron_weekdays_some values own =
    let v = own.value.0 in
    let range = own.within v own.value.1 in
    let high = range.1 in
    let turned_back : ((v + 6) % 7 + 1) % 7 ≡ v = omega arith in
    some_from (cron_weekdays values) ((v + 6) % 7)
    (members_have (λ w. has_value values ((w + 1) % 7)) 0 7 ((v + 6) % 7) (omega arith) (omega arith) ∙ ap (has_value values) turned_back ∙ own.value.1)

event_weekdays_some : (weekdays : Option SetOfValues) → IfSome weekdays (LieWithin 0 6) → IsNonEmpty (event_weekdays weekdays)
event_weekdays_some None some = tt
event_weekdays_some (Some values) some = members_some 0 6 7 values (omega arith) some

pub cron_form : (rule : CronRule) → CronIsWithinLimits rule → IsWellFormed (Scheduled (cron_said rule))
cron_form rule full = record {
  time = time_form (0 ∷ []) (set_members rule.minutes 0 60) (set_members rule.hours 0 24) tt
      (members_some 0 59 60 rule.minutes (omega arith) full.minutes) (members_some 0 23 24 rule.hours (omega arith) full.hours);
  days = days_form (rule.month_days_restricted && rule.week_days_restricted) false (set_members rule.month_days 1 31) (cron_weekdays rule.week_days)
      (members_some 1 31 31 rule.month_days (omega arith) full.month_days) (cron_weekdays_some rule.week_days full.week_days);
  months = months_form (set_members rule.months 1 12) (members_some 1 12 12 rule.months (omega arith) full.months);
  years = tt;
  zone = tt;
}

pub event_form : (event : Calendar) (zone : Option (List ℕ)) → EventIsWithinLimits event → IsZone zone → IsWellFormed (Scheduled (event_said event zone))
event_form event ending full is_zone = record {
  time = time_form (set_members event.seconds 0 60) (set_members event.minutes 0 60) (set_members event.hours 0 24)
      (members_some 0 59 60 event.seconds (omega arith) full.seconds) (members_some 0 59 60 event.minutes (omega arith) full.minutes)
      (members_some 0 23 24 event.hours (omega arith) full.hours);
  days = days_form false (is_from_end event.day_count) (set_members event.days 1 31) (event_weekdays event.weekdays)
      (members_some 1 31 31 event.days (omega arith) full.days) (event_weekdays_some event.weekdays full.weekdays);
  months = months_form (set_members event.months 1 12) (members_some 1 12 12 event.months (omega arith) full.months);
  years = years_form (has_value event.years) (members_some first_year last_year year_count event.years (omega arith) full.years);
  zone = is_zone;
}
