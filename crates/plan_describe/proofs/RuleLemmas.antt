-- The description of a rule matches exactly when the rule does.
use Rattle.std.proofs.Common.{◌≡◌, ℕ, ◌+◌, ◌/◌, ◌%◌, ◌≤◌, Bool, true, false, ◌&&◌, ◌||◌, ◌==◌, nat_le, if◌then◌else◌, List, [], ◌∷◌, Option, Some, None, pos, refl, ap, sym, ◌∙◌, arith}
use Rattle.std.proofs.lemmas.Bool.{and_from, and_right}
use Rattle.std.proofs.lemmas.Bool.Decides.{nat_tests}
use Rattle.jiff_core.proofs.CalendarLemmas.{days_in_month_bounds}
use Rattle.plan_sets.specs.declared.civil.Civil.{Civil}
use Rattle.plan_sets.specs.Civil.{length_of_month}
use Rattle.plan_sets.specs.Items.{is_within}
use Rattle.plan_sets.specs.Limits.{first_year, last_year}
use Rattle.plan_sets.specs.Values.{Values as SetOfValues, has_value}
use Rattle.plan_match.specs.declared.cron.CronRule.{CronRule}
use Rattle.plan_match.specs.declared.event.Calendar.{Calendar}
use Rattle.plan_match.specs.declared.event.DayCount.{DayCount}
use Rattle.plan_match.specs.declared.event.DayCount.TheVariants as count
use Rattle.plan_match.specs.EventMatch.{event_matches, is_day as is_day_of_month, month_day_matches, weekday_matches}
use Rattle.plan_match.specs.Match.{cron_matches, days_admit}
use Rattle.plan_words.specs.Tree.{Scheduled}
use Rattle.plan_words.specs.Meaning.{days_have, description_matches, months_have, place_from_end, time_has, time_of_civil}
use Rattle.plan_describe.specs.Numbers.{has_number}
use Rattle.plan_describe.specs.TimeSaid.{time_said}
use Rattle.plan_describe.specs.DaysSaid.{days_said, months_said}
use Rattle.plan_describe.specs.Said.{cron_said, cron_weekdays, event_said, event_weekdays, is_from_end, set_members}
use Rattle.plan_describe.specs.Laws.{IsInYears}
use Rattle.plan_describe.proofs.NumbersLemmas.{AreBelow, members_below, members_have, or_none}
use Rattle.plan_describe.proofs.TimeLemmas.{time_said_has}
use Rattle.plan_describe.proofs.DaysLemmas.{days_said_has, members_are_months, months_said_has, years_said_has, IsPlace}

-- the parts of civil fields are in their ranges
place_of : (civil : Civil) → IsInYears civil → IsPlace civil.day (place_from_end civil) civil.weekday
place_of civil is =
    let most = (days_in_month_bounds (pos civil.year) civil.month).0 in
    let low = is.day.0 in
    let high = is.day.1 in
    record { day_from = low; day_to = omega arith; place_from = omega arith; place_to = omega arith; weekday = is.weekday }

-- the months of a set
months_part : (values : SetOfValues) (civil : Civil) → IsInYears civil →
    months_have (months_said (set_members values 1 12)) civil.month ≡ has_value values civil.month
months_part values civil is =
    let low = is.month.0 in
    let high = is.month.1 in
    months_said_has (set_members values 1 12) civil.month low high (members_are_months (has_value values) 1 12 (omega arith) (omega arith))
    ∙ members_have (has_value values) 1 12 civil.month low (omega arith)

-- the days of a set
days_part :
    (from_end : Bool) (values : SetOfValues) (civil : Civil) → IsInYears civil →
    has_number (set_members values 1 31) (if from_end then place_from_end civil else civil.day)
    ≡ has_value values (if from_end then place_from_end civil else civil.day)
days_part true values civil is =
    let place = place_of civil is in
    let high = place.place_to in
    members_have (has_value values) 1 31 (place_from_end civil) place.place_from (omega arith)
days_part false values civil is =
    let place = place_of civil is in
    let high = place.day_to in
    members_have (has_value values) 1 31 civil.day place.day_from (omega arith)

-- ---- cron rules

-- the second alone
at_second : (s : ℕ) → has_number (0 ∷ []) s ≡ (s == 0)
at_second s = or_none (0 == s) ∙ turned s
  where
    turned : (s : ℕ) → (0 == s) ≡ (s == 0)
    turned s = grind (arith, nat_tests)

-- the parts of a time
time_part :
    (seconds minutes hours : List ℕ) (civil : Civil) → IsInYears civil → AreBelow 60 seconds → AreBelow 60 minutes → AreBelow 24 hours →
    time_has (time_said seconds minutes hours) (time_of_civil civil)
    ≡ (has_number seconds civil.second && (has_number minutes civil.minute && has_number hours civil.hour))
time_part seconds minutes hours civil is seconds_below minutes_below hours_below =
    let t = time_of_civil civil in
    let h_below = is.time.0 in
    let m_below = is.time.1 in
    let s_below = is.time.2 in
    let s_is : t % 60 ≡ civil.second = omega arith in
    let m_is : t / 60 % 60 ≡ civil.minute = omega arith in
    let h_is : t / 3600 ≡ civil.hour = omega arith in
    time_said_has seconds minutes hours t (omega arith) seconds_below minutes_below hours_below
    ∙ (λ i. has_number seconds (s_is i) && (has_number minutes (m_is i) && has_number hours (h_is i)))

cron_days :
    (rule : CronRule) (civil : Civil) → IsInYears civil →
    days_have
    (days_said (rule.month_days_restricted && rule.week_days_restricted) false (set_members rule.month_days 1 31) (cron_weekdays rule.week_days))
    civil.day (place_from_end civil) civil.weekday
    ≡ days_admit rule civil
cron_days rule civil is =
    let days = days_part false rule.month_days civil is in
    let w_below = is.weekday in
    let week = members_have (λ w. has_value rule.week_days ((w + 1) % 7)) 0 7 civil.weekday (omega arith) (omega arith) in
    days_said_has (rule.month_days_restricted && rule.week_days_restricted) false (set_members rule.month_days 1 31) (cron_weekdays rule.week_days)
    civil.day (place_from_end civil) civil.weekday (place_of civil is) (members_below (λ w. has_value rule.week_days ((w + 1) % 7)) 0 7 7 (omega arith))
    ∙ (λ i. if rule.month_days_restricted && rule.week_days_restricted then days i || week i else days i && week i)

and_swap : (a b : Bool) → (a && b) ≡ (b && a)
and_swap true true = refl
and_swap true false = refl
and_swap false true = refl
and_swap false false = refl

moved : (d a b c : Bool) → (d && (a && (b && c))) ≡ (a && (b && (c && d)))
moved d true true c = and_swap d c
moved d true false c = and_right d false refl
moved d false b c = and_right d false refl

pub cron_means : (rule : CronRule) (civil : Civil) → IsInYears civil → description_matches (Scheduled (cron_said rule)) civil ≡ cron_matches rule civil
cron_means rule civil is =
    let time =
    time_part (0 ∷ []) (set_members rule.minutes 0 60) (set_members rule.hours 0 24) civil is (omega arith, tt)
    (members_below (has_value rule.minutes) 0 60 60 (omega arith)) (members_below (has_value rule.hours) 0 24 24 (omega arith)) in
    let m_below = is.time.1 in
    let h_below = is.time.0 in
    let second = at_second civil.second in
    let minute = members_have (has_value rule.minutes) 0 60 civil.minute (omega arith) (omega arith) in
    let hour = members_have (has_value rule.hours) 0 24 civil.hour (omega arith) (omega arith) in
    let month = months_part rule.months civil is in
    let days = cron_days rule civil is in
    (λ i. (month i && days i) && time i) ∙ (λ i. (has_value rule.months civil.month && days_admit rule civil) && (second i && (minute i && hour i)))
    ∙ moved (has_value rule.months civil.month && days_admit rule civil) (civil.second == 0) (has_value rule.minutes civil.minute)
    (has_value rule.hours civil.hour)

-- ---- calendar events

-- the calendar has the day
day_exists : (civil : Civil) → IsInYears civil → is_day_of_month civil ≡ true
day_exists civil is =
    let years = within first_year last_year civil.year is.year.0 is.year.1 in
    let months = within 1 12 civil.month is.month.0 is.month.1 in
    let days = within 1 (length_of_month civil.year civil.month) civil.day is.day.0 is.day.1 in
    and_from (is_within first_year last_year civil.year) (is_within 1 12 civil.month && is_within 1 (length_of_month civil.year civil.month) civil.day) years
    (and_from (is_within 1 12 civil.month) (is_within 1 (length_of_month civil.year civil.month) civil.day) months days)
  where
    within : (first last v : ℕ) → first ≤ v → v ≤ last → (nat_le first v && nat_le v last) ≡ true
    within first last v low high = grind (arith, nat_tests)

month_day_part :
    (way : DayCount) (values : SetOfValues) (civil : Civil) → IsInYears civil →
    has_number (set_members values 1 31) (if is_from_end way then place_from_end civil else civil.day) ≡ month_day_matches way values civil
month_day_part count.FromStart values civil is = days_part false values civil is
month_day_part count.FromEnd values civil is =
    days_part true values civil is ∙ ap (λ b. b && has_value values (place_from_end civil)) (sym (day_exists civil is))

weekday_part :
    (weekdays : Option SetOfValues) (civil : Civil) → IsInYears civil → has_number (event_weekdays weekdays) civil.weekday ≡ weekday_matches weekdays civil
weekday_part None civil is = let below = is.weekday in members_have (λ w. true) 0 7 civil.weekday (omega arith) (omega arith)
weekday_part (Some values) civil is =
    let below = is.weekday in members_have (has_value values) 0 7 civil.weekday (omega arith) (omega arith)

weekdays_below : (weekdays : Option SetOfValues) → AreBelow 7 (event_weekdays weekdays)
weekdays_below None = members_below (λ w. true) 0 7 7 (omega arith)
weekdays_below (Some values) = members_below (has_value values) 0 7 7 (omega arith)

-- tests in the order of an event
ordered : (y m d s n h : Bool) → ((y && (m && d)) && (s && (n && h))) ≡ ((y && (m && d)) && (h && (n && s)))
ordered y m d true true true = refl
ordered y m d true true false = refl
ordered y m d true false true = refl
ordered y m d true false false = refl
ordered y m d false true true = refl
ordered y m d false true false = refl
ordered y m d false false true = refl
ordered y m d false false false = refl

pub event_means :
    (event : Calendar) (zone : Option (List ℕ)) (civil : Civil) → IsInYears civil →
    description_matches (Scheduled (event_said event zone)) civil ≡ event_matches event civil
event_means event ending civil is =
    let time =
    time_part (set_members event.seconds 0 60) (set_members event.minutes 0 60) (set_members event.hours 0 24) civil is
    (members_below (has_value event.seconds) 0 60 60 (omega arith)) (members_below (has_value event.minutes) 0 60 60 (omega arith))
    (members_below (has_value event.hours) 0 24 24 (omega arith)) in
    let s_below = is.time.2 in
    let m_below = is.time.1 in
    let h_below = is.time.0 in
    let second = members_have (has_value event.seconds) 0 60 civil.second (omega arith) (omega arith) in
    let minute = members_have (has_value event.minutes) 0 60 civil.minute (omega arith) (omega arith) in
    let hour = members_have (has_value event.hours) 0 24 civil.hour (omega arith) (omega arith) in
    let year = years_said_has (has_value event.years) civil.year is.year.0 is.year.1 in
    let month = months_part event.months civil is in
    let days = month_day_part event.day_count event.days civil is in
    let week = weekday_part event.weekdays civil is in
    let in_days =
    days_said_has false (is_from_end event.day_count) (set_members event.days 1 31) (event_weekdays event.weekdays) civil.day (place_from_end civil)
    civil.weekday (place_of civil is) (weekdays_below event.weekdays) in
    (λ i. (year i && (month i && in_days i)) && time i)
    ∙ (λ i. (has_value event.years civil.year && (has_value event.months civil.month && (days i && week i))) && (second i && (minute i && hour i)))
    ∙ ordered (has_value event.years civil.year) (has_value event.months civil.month)
    (month_day_matches event.day_count event.days civil && weekday_matches event.weekdays civil)
    (has_value event.seconds civil.second) (has_value event.minutes civil.minute) (has_value event.hours civil.hour)
