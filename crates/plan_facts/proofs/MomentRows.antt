-- Known timestamps, and texts that are none, as theorems about the definitions.
-- They answer no goal of a function, but test `moment_text_of` and `HasFault` themselves. The texts of seconds
-- are computed. A text is rejected because of its length, one of its bytes, or its date and time.
use Rattle.std.proofs.Common.{◌≡◌, ℕ, ◌<◌, List, ap, arith, get_or, inl, inr, length, refl, rules}
use Rattle.std.specs.Prelude.{codes}
use Rattle.jiff_core.proofs.SignedLemmas.{signed_arith}
use Rattle.plan_sets.specs.Limits.{end_second, first_year}
use Rattle.plan_sets.specs.declared.moment.MomentFault.TheVariants.{BadForm, NoSuchDate, OutOfYears}
use Rattle.plan_sets.specs.Moment.{moment_text_of, HasFault, IsInCalendar, Says, Written}
use Rattle.plan_sets.specs.CivilLaws.{days_from_civil-before_year, days_from_civil-end, days_from_civil-first}
use Rattle.plan_facts.proofs.OnTexts.{on_civil}

the_epoch : moment_text_of 0 ≡ codes "1970-01-01T00:00:00Z"
unfolding on_civil moment_text_of
the_epoch = refl

with_a_time : moment_text_of 1_700_000_000 ≡ codes "2023-11-14T22:13:20Z"
unfolding on_civil moment_text_of
with_a_time = refl

the_end : moment_text_of end_second ≡ codes "3000-01-01T00:00:00Z"
unfolding on_civil moment_text_of
the_end = refl

-- a month of one digit doesn't have the form of a timestamp
short_month : HasFault (codes "2024-1-1T00:00:00Z") BadForm
short_month = λ w says. absurd (omega (arith, ap length says.text_is))

small_t : HasFault (codes "2024-01-01t00:00:00Z") BadForm
small_t = λ w says. absurd (omega (arith, ap (λ (l : List ℕ). get_or l 10 0) says.text_is))

thirtieth_of_february : HasFault (codes "2024-02-30T00:00:00Z") NoSuchDate
thirtieth_of_february =
    let w : Written = record { year = 2024; month = 2; day = 30; hour = 0; minute = 0; second = 0 } in
    (w, record { room = search rules; text_is = refl }, λ h. absurd (omega (arith, h.0.2.1)))

-- February of the year 0 has a leap day, but no 30th
thirtieth_of_february_0 : HasFault (codes "0000-02-30T00:00:00Z") NoSuchDate
thirtieth_of_february_0 =
    let w : Written = record { year = 0; month = 2; day = 30; hour = 0; minute = 0; second = 0 } in
    (w, record { room = search rules; text_is = refl }, λ h. absurd (omega (arith, h.0.2.1)))

hour_24 : HasFault (codes "2024-01-01T24:00:00Z") NoSuchDate
hour_24 =
    let w : Written = record { year = 2024; month = 1; day = 1; hour = 24; minute = 0; second = 0 } in
    (w, record { room = search rules; text_is = refl }, λ h. absurd (omega (arith, h.1)))

-- a date before 1970 is out of the years
before_the_years : (text : List ℕ) (w : Written) → Says text w → IsInCalendar w → w.year < first_year → HasFault text OutOfYears
before_the_years text w says exists early =
    let before = days_from_civil-before_year w.year w.month w.day first_year exists.0 early in
    (w, says, exists, inl (omega (arith, signed_arith, days_from_civil-first)))

year_0 : HasFault (codes "0000-01-01T00:00:00Z") OutOfYears
year_0 =
    let w : Written = record { year = 0; month = 1; day = 1; hour = 0; minute = 0; second = 0 } in
    before_the_years _ w (record { room = search rules; text_is = refl }) (search rules) (omega arith)

second_before_1970 : HasFault (codes "1969-12-31T23:59:59Z") OutOfYears
second_before_1970 =
    let w : Written = record { year = 1969; month = 12; day = 31; hour = 23; minute = 59; second = 59 } in
    before_the_years _ w (record { room = search rules; text_is = refl }) (search rules) (omega arith)

second_past_the_end : HasFault (codes "3000-01-01T00:00:01Z") OutOfYears
second_past_the_end =
    let w : Written = record { year = 3000; month = 1; day = 1; hour = 0; minute = 0; second = 1 } in
    (w, record { room = search rules; text_is = refl }, search rules, inr (omega (arith, signed_arith, days_from_civil-end)))
