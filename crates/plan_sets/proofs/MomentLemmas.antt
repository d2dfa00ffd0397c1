-- What a text with the form of a timestamp says, and that it says only one thing.
-- For the clauses `ok` and `accepted` of `read_moment`, and the clause `some` of `Fields::read` (two digits as a number). The
-- bytes at known positions give each number; `moment_text_of` is unfolded to the text of the civil fields.
use Rattle.std.proofs.Common.{◌≡◌, ℕ, ◌+◌, ◌/◌, ◌%◌, ◌<◌, ◌≤◌, List, [], ◌∷◌, ap, arith, pos, subst, sym, ◌∙◌}
use Rattle.std.proofs.lemmas.Bool.Decides.{nat_tests}
use Rattle.jiff_core.proofs.CalendarLemmas.{days_in_month_bounds}
use Rattle.plan_sets.specs.Limits.{end_second}
use Rattle.plan_sets.specs.Civil.{civil_fields}
use Rattle.plan_sets.specs.Moment.{moment_text_of, written_second, two_digits, written_of, written_text, IsInCalendar, Says, Written}
use Rattle.plan_sets.specs.CivilLaws.{second_number-civil, IsCivilOf-civil_fields, IsInRange-year, Shows-civil_fields}

-- two bytes that are the digits of a number
pub record AreDigits (tens ones n : ℕ) : Type 0 where
  pub small : n < 100
  pub tens_is : tens ≡ 48 + n / 10
  pub ones_is : ones ≡ 48 + n % 10

pub AreDigits-two_digits : (tens ones n : ℕ) → (n < 100) × (tens ∷ ones ∷ [] ≡ two_digits n) → AreDigits tens ones n
AreDigits-two_digits tens ones n given = grind (arith, nat_tests)

same_written :
    (v w : Written) → v.year ≡ w.year → v.month ≡ w.month → v.day ≡ w.day → v.hour ≡ w.hour → v.minute ≡ w.minute →
    v.second ≡ w.second → v ≡ w
same_written v w year month day hour minute second = grind (arith, nat_tests)

-- a text says only one thing
pub Says-unique : (text : List ℕ) (v w : Written) → Says text v → Says text w → v ≡ w
Says-unique text v w p q = grind (arith, nat_tests)

-- the text of a second says its fields
pub Says-moment_text_of : (text : List ℕ) (n : ℕ) → n ≤ end_second → text ≡ moment_text_of n → Says text (written_of (civil_fields n))
unfolding moment_text_of
Says-moment_text_of text n h e =
    let c = civil_fields n in
    let is = IsCivilOf-civil_fields n h in
    let years = IsInRange-year n c is h in
    let days = days_in_month_bounds (pos c.year) c.month in
    record { room = omega arith; text_is = e }

-- so if the text of a second says a date and time, these exist and have the number of that second
pub Says-second :
    (text : List ℕ) (n : ℕ) (w : Written) → n ≤ end_second → text ≡ moment_text_of n → Says text w →
    IsInCalendar w × (written_second w ≡ pos n)
Says-second text n w h e says =
    let is = IsCivilOf-civil_fields n h in
    let same : w ≡ written_of (civil_fields n) = Says-unique text w (written_of (civil_fields n)) says (Says-moment_text_of text n h e) in
    let P : Written → Type 0 = λ v. IsInCalendar v × (written_second v ≡ pos n) in
    subst P (sym same) ((is.date, is.time), second_number-civil n (civil_fields n) is)

-- a text that says a date and time with the number of a second is the text of that second
pub moment_text_of-number :
    (text : List ℕ) (n : ℕ) (w : Written) → n ≤ end_second → Says text w → IsInCalendar w → pos n ≡ written_second w →
    text ≡ moment_text_of n
unfolding moment_text_of
moment_text_of-number text n w h says exists e =
    let shows = Shows-civil_fields n w.year w.month w.day w.hour w.minute w.second h exists e in
    let same : written_of (civil_fields n) ≡ w = same_written (written_of (civil_fields n)) w shows.0 shows.1 shows.2 shows.3
    shows.4 shows.5 in
    says.text_is ∙ ap written_text (sym same)
