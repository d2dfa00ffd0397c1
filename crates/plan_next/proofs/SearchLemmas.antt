-- A search month by month is a search of the whole.
-- For `first_open_day` and `first_later_day`, and for `date` and `later` of `Month`. Days and months are compared by
-- the first day of a month (`ComesBefore-day`). `none_later` is hard: it is about the months that were skipped.
use Rattle.std.proofs.Common.{◌≡◌, ℕ, ◌+◌, ◌-◌, ◌*◌, ◌/◌, ◌<◌, ◌≤◌, true, false, Option, Some, None, inl, inr, ap, sym, ◌∙◌, subst, arith}
use Rattle.std.proofs.lemmas.Bool.Decides.{nat_tests}
use Rattle.std.specs.Prelude.{min}
use Rattle.std.specs.Int.{IsInRange}
use Rattle.std.proofs.lemmas.Bool.{cases_lt, cases_Bool, true≢false}
use Rattle.plan_sets.specs.declared.civil.Civil.{Civil}
use Rattle.plan_sets.specs.Limits.{seconds_a_day}
use Rattle.plan_sets.specs.Civil.{civil_fields}
use Rattle.plan_sets.specs.CivilLaws.{IsCivilOf-civil_fields}
use Rattle.plan_sets.specs.Months.{month_number, ComesBefore, IsFirstDay}
use Rattle.plan_sets.specs.MonthsLaws.{civil_fields-of_month, ComesBefore-first_day, IsFirstDay-le_end, IsFirstDay-next, IsInRange-month_number}
use Rattle.plan_next.specs.declared.month.Month.{Month}
use Rattle.plan_next.specs.declared.search.Pattern.{Pattern}
use Rattle.plan_next.specs.Starts.{NoneIn, IsLeastIn}
use Rattle.plan_next.specs.Search.{admits_date, admits_day, admits_month, admits_month_number, admits_year, end_day, end_month, IsFirstOpen, IsMonth}

-- the month of a day, by its day number
abbrev pub month_of_day : ℕ → ℕ
month_of_day day = month_number (civil_fields (day * seconds_a_day))

-- ---- laws of each kind of pattern

-- if the date matches, so do its year and its month
record HasMonth (pattern : Pattern) (civil : Civil) : Type 0 where
  year : admits_year pattern civil.year ≡ true
  month : admits_month pattern civil.month ≡ true

HasMonth-date : (pattern : Pattern) (civil : Civil) → admits_date pattern civil ≡ true → HasMonth pattern civil
HasMonth-date pattern civil given = grind (arith, nat_tests)

-- ---- days and months

month_here :
    (pattern : Pattern) (year month : ℕ) → IsInRange 1 12 month → admits_year pattern year ≡ true →
    admits_month pattern month ≡ true → admits_month_number pattern (12 * year + (month - 1)) ≡ true
month_here pattern year month given given₂ given₃ = grind (arith, nat_tests)

-- no day of a month that doesn't match does
no_day_of_month :
    (pattern : Pattern) (day : ℕ) → day < end_day → admits_month_number pattern (month_of_day day) ≡ false →
    admits_day pattern day ≡ false
no_day_of_month pattern day h none =
    elim (cases_Bool (admits_day pattern day)) [
      | inl some ↦
          let c = civil_fields (day * seconds_a_day) in
          let fields = IsCivilOf-civil_fields (day * seconds_a_day) (omega arith) in
          let has = HasMonth-date pattern c some in
          absurd (true≢false (sym (month_here pattern c.year c.month fields.date.1 has.year has.month) ∙ none))
      | inr not ↦ not
    ]

day_of_first_second : (day : ℕ) → day * seconds_a_day / seconds_a_day ≡ day
day_of_first_second day = omega arith

-- the first day of a month, compared with any day
ComesBefore-day :
    (month first day : ℕ) → month ≤ end_month → IsFirstDay month first → day < end_day →
    ComesBefore month first day (civil_fields (day * seconds_a_day))
ComesBefore-day month first day known is h =
    let fact = ComesBefore-first_day month first (day * seconds_a_day) (omega arith) is (omega arith) in
    subst (λ d. ComesBefore month first d (civil_fields (day * seconds_a_day))) (day_of_first_second day) fact

-- the end of a month is the first day of the next
pub IsFirstDay-end_of : (month : Month) → IsMonth month → IsFirstDay (month.number + 1) month.end
IsFirstDay-end_of month is = grind (arith, nat_tests, IsFirstDay-next)

pub ends_in_years : (month : Month) → IsMonth month → month.end ≤ end_day
ends_in_years month is =
    let high = is.to in
    IsFirstDay-le_end (month.number + 1) month.end (omega arith) (IsFirstDay-end_of month is)

-- a day at or after the end of a month is in a later month
month_past : (month : Month) (day : ℕ) → IsMonth month → month.end ≤ day → day < end_day → month.number + 1 ≤ month_of_day day
month_past month day is from known =
    let high = is.to in
    let at_end = ComesBefore-day (month.number + 1) month.end day (omega arith) (IsFirstDay-end_of month is) known in
    elim (cases_lt (month_of_day day) (month.number + 1)) [
      | inl lt ↦ absurd (omega (arith, at_end.before lt))
      | inr le ↦ le
    ]

-- a day before a month is in an earlier month
month_before : (month : Month) (day : ℕ) → IsMonth month → day < month.first → day < end_day → month_of_day day < month.number
month_before month day is until known =
    let high = is.to in
    let at_first = ComesBefore-day month.number month.first day (omega arith) is.first_day known in
    elim (cases_lt (month_of_day day) month.number) [
      | inl lt ↦ lt
      | inr le ↦ absurd (omega (arith, at_first.from le))
    ]

month_in_years : (day : ℕ) → day < end_day → month_of_day day < end_month
month_in_years day h = (IsInRange-month_number (day * seconds_a_day) (omega arith)).1

day_of :
    (month : Month) (day : ℕ) → IsMonth month → month.first ≤ day → day < month.end →
    (civil_fields (day * seconds_a_day)).day ≡ day - month.first + 1
day_of month day is from to =
    let known = ends_in_years month is in
    let last = is.to in
    let length = is.end_is in
    ap (λ (c : Civil). c.day) (civil_fields-of_month month.number month.first day (omega arith) is.first_day from (omega arith)
    (omega arith))

-- the search of a month from `from` has reached a day, and knows the next place in the month where a day may match
pub record IsOpen (pattern : Pattern) (month : Month) (from day : ℕ) (place : Option ℕ) : Type 0 where
  pub known : IsMonth month
  pub start : month.first ≤ from
  pub low : from ≤ day
  pub none : NoneIn (admits_day pattern) from day
  pub goes_on : IsFirstOpen pattern (day - month.first + 1) place

-- no day of a month before that place matches
pub not_open :
    (pattern : Pattern) (month : Month) (from day first k : ℕ) → IsOpen pattern month from day (Some first) → from ≤ k →
    k < month.first + (first - 1) → k < month.end → admits_day pattern k ≡ false
not_open pattern month from day first k is low before within =
    let start = is.start in
    let from_low = is.low in
    let here = day_of month k is.known (omega arith) within in
    elim (cases_lt k day) [
      | inl earlier ↦ is.none k low earlier
      | inr after ↦ is.goes_on.1 (civil_fields (k * seconds_a_day)) (omega arith) (omega arith)
    ]

pub none_open :
    (pattern : Pattern) (month : Month) (from day end : ℕ) → IsOpen pattern month from day None →
    NoneIn (admits_day pattern) from (min end month.end)
none_open pattern month from day end is k low high =
    let start = is.start in
    let from_low = is.low in
    let here = day_of month k is.known (omega arith) (omega arith) in
    elim (cases_lt k day) [
      | inl earlier ↦ is.none k low earlier
      | inr after ↦ is.goes_on (civil_fields (k * seconds_a_day)) (omega arith)
    ]

-- the search from `begin` has reached a day of a month, or the month's end
pub record IsReached (pattern : Pattern) (begin : ℕ) (month : Month) (from : ℕ) : Type 0 where
  pub known : IsMonth month
  pub start : month.first ≤ from
  pub until : from ≤ month.end
  pub low : begin ≤ from
  pub none : NoneIn (admits_day pattern) begin from

none_of_month :
    (pattern : Pattern) (begin from end day : ℕ) (month : Month) → IsReached pattern begin month from →
    NoneIn (admits_day pattern) from (min end month.end) → begin ≤ day → day < end → day < month.end →
    admits_day pattern day ≡ false
none_of_month pattern begin from end day month reached none low high until = grind (arith, nat_tests)

-- a day before the month `upto` doesn't match if no month between this one and that one does
none_later :
    (pattern : Pattern) (begin from end upto day : ℕ) (month : Month) → IsReached pattern begin month from →
    NoneIn (admits_day pattern) from (min end month.end) → NoneIn (admits_month_number pattern) (month.number + 1) upto →
    begin ≤ day → (day < month.end → day < end) → day < end_day → month_of_day day < upto → admits_day pattern day ≡ false
none_later pattern begin from end upto day month reached none months low high known lt =
    elim (cases_lt day month.end) [
      | inl before ↦ none_of_month pattern begin from end day month reached none low (high before) before
      | inr after ↦ no_day_of_month pattern day known (months (month_of_day day) (month_past month day reached.known after known) lt)
    ]

pub no_month_left :
    (pattern : Pattern) (begin from end : ℕ) (month : Month) → IsReached pattern begin month from →
    NoneIn (admits_day pattern) from (min end month.end) → NoneIn (admits_month_number pattern) (month.number + 1) end_month →
    end ≤ end_day → NoneIn (admits_day pattern) begin end
no_month_left pattern begin from end month reached none months known day low high =
    none_later pattern begin from end end_month day month reached none months low (λ _. high) (omega arith)
    (month_in_years day (omega arith))

-- a month ends before a later one begins
ends_before : (month later : Month) → IsMonth month → IsMonth later → month.number < later.number → month.end ≤ later.first
ends_before month later is is_later lt =
    let known = ends_in_years month is in
    let high = is_later.to in
    elim (cases_lt later.first month.end) [
      | inl begins ↦
          let last = month.end - 1 in
          let at_end = ComesBefore-day (month.number + 1) month.end last (omega arith) (IsFirstDay-end_of month is) (omega arith) in
          let at_later = ComesBefore-day later.number later.first last (omega arith) is_later.first_day (omega arith) in
          elim (cases_lt (month_of_day last) (month.number + 1)) [
            | inl within ↦ absurd (omega (arith, at_later.before (omega arith)))
            | inr past ↦ absurd (omega (arith, at_end.from past))
          ]
      | inr le ↦ le
    ]

-- the search continues with the first day of the next matching month
pub month_reached :
    (pattern : Pattern) (begin from end next : ℕ) (month later : Month) → IsReached pattern begin month from →
    NoneIn (admits_day pattern) from (min end month.end) → month.end < end →
    IsLeastIn (admits_month_number pattern) (month.number + 1) end_month next → IsMonth later → later.number ≡ next →
    IsReached pattern begin later later.first
month_reached pattern begin from end next month later reached none within (low, high, is_next, months) is number =
    let start = reached.low in
    let until = reached.until in
    let after = ends_before month later reached.known is (omega arith) in
    let length = is.end_is in
    let known = ends_in_years later is in
    record {
      known = is;
      start = omega arith;
      until = omega arith;
      low = omega arith;
      none = λ day from_low lt.
          let before = month_before later day is lt (omega arith) in
          none_later pattern begin from end next day month reached none months from_low (λ h. omega arith) (omega arith) (omega arith);
    }
