-- A text with the date and the offset of a known time, and a later time of day, is the text of a time that is later by as much.
use Rattle.std.proofs.Common.{◌≡◌, ℕ, ◌+◌, ◌-◌, ◌/◌, ◌%◌, ◌<◌, ◌≤◌, pos, List, ◌++◌, codes, length, take, drop, ap, arith, inl, inr, refl, subst, sym, ◌∙◌}
use Rattle.std.proofs.lemmas.Bool.Decides.{nat_tests}
use Rattle.std.proofs.lemmas.Int.{ints}
use Rattle.std.proofs.lemmas.List.{append_assoc, drop_at, length-append, take_at}
use Rattle.plan_sets.specs.Civil.{civil_fields, month_and_day, year_and_day}
use Rattle.plan_sets.specs.Limits.{end_second, first_year, seconds_a_day}
use Rattle.plan_sets.specs.Moment.{moment_text_of, written_text}
use Rattle.plan_write.specs.LocalTimes.{date_time, offset_text}
use Rattle.plan_baseline.specs.Times.{HasClock, IsLater, IsLocal, IsTimeOf, clock_text}
use Rattle.plan_baseline.proofs.TimeLemmas.{date_time_utc}

-- the date by the number of a day, with the letter after it
abbrev date_of : (day : ℕ) → List ℕ
date_of day =
    let in_year = year_and_day day first_year day in
    let in_month = month_and_day 11 (pos in_year.0) 1 in_year.1 in
    take 11 (written_text (record {
      year = in_year.0;
      month = in_month.0;
      day = in_month.1;
      hour = 0;
      minute = 0;
      second = 0;
    }))

in_parts : (n : ℕ) → date_time n ≡ date_of (n / seconds_a_day) ++ clock_text (n % seconds_a_day)
unfolding moment_text_of civil_fields
in_parts n = refl

clock_unique : (m n : ℕ) → m < seconds_a_day → n < seconds_a_day → clock_text m ≡ clock_text n → m ≡ n
clock_unique m n first second same = grind (arith, nat_tests)

-- the date and the time of day of a second, so many seconds later
date_time_later :
    (date : List ℕ) (shown clock later : ℕ) → length date ≡ 11 → date ++ clock_text clock ≡ date_time shown → clock ≤ later →
    later < seconds_a_day → date ++ clock_text later ≡ date_time (shown + (later - clock))
date_time_later date shown clock later long is after inside =
    let whole : date ++ clock_text clock ≡ date_of (shown / seconds_a_day) ++ clock_text (shown % seconds_a_day) = is ∙ in_parts shown in
    let first : date ≡ date_of (shown / seconds_a_day) =
    sym (take_at date (clock_text clock) 11 long) ∙ ap (take 11) whole
    ∙ take_at (date_of (shown / seconds_a_day)) (clock_text (shown % seconds_a_day)) 11 refl in
    let last : clock_text clock ≡ clock_text (shown % seconds_a_day) =
    sym (drop_at date (clock_text clock) 11 long) ∙ ap (drop 11) whole
    ∙ drop_at (date_of (shown / seconds_a_day)) (clock_text (shown % seconds_a_day)) 11 refl in
    let now : clock ≡ shown % seconds_a_day = clock_unique clock (shown % seconds_a_day) (omega (arith, after, inside)) (omega arith) last in
    let day : shown / seconds_a_day ≡ (shown + (later - clock)) / seconds_a_day = omega (arith, now, after, inside) in
    let time : later ≡ (shown + (later - clock)) % seconds_a_day = omega (arith, now, after, inside) in
    (λ i. first i ++ clock_text later) ∙ (λ i. date_of (day i) ++ clock_text (time i)) ∙ sym (in_parts (shown + (later - clock)))

-- ---- a time in three parts: its date, its time of day, and what follows

module _ (known date clock_is zone : List ℕ) (second clock : ℕ) (whole : known ≡ date ++ (clock_is ++ zone)) (date_long : length date ≡ 11)
    (clock_long : length clock_is ≡ 8) where
  shown_by : HasClock known clock → clock < seconds_a_day → clock_is ≡ clock_text clock
  shown_by has inside =
      sym (take_at clock_is zone 8 clock_long) ∙ ap (take 8) (sym (drop_at date (clock_is ++ zone) 11 date_long) ∙ ap (drop 11) (sym whole))
      ∙ has inside

  front_long : length (date ++ clock_is) ≡ 19
  front_long = omega (arith, length-append date clock_is, date_long, clock_long)

  in_two : known ≡ (date ++ clock_is) ++ zone
  in_two = whole ∙ sym (append_assoc date clock_is zone)

  front_of : (other back : List ℕ) → length other ≡ 19 → known ≡ other ++ back → (date ++ clock_is ≡ other) × (zone ≡ back)
  front_of other back long is =
      let both : (date ++ clock_is) ++ zone ≡ other ++ back = sym in_two ∙ is in (
        sym (take_at (date ++ clock_is) zone 19 front_long) ∙ ap (take 19) both ∙ take_at other back 19 long,
        sym (drop_at (date ++ clock_is) zone 19 front_long) ∙ ap (drop 19) both ∙ drop_at other back 19 long,
      )

date_time_length : (n : ℕ) → length (date_time n) ≡ 19
unfolding moment_text_of
date_time_length n = refl

later_text : (date zone back : List ℕ) (clock m : ℕ) → date ++ clock_text clock ≡ date_time m → zone ≡ back →
    date ++ (clock_text clock ++ zone) ≡ date_time m ++ back
later_text date zone back clock m front is =
    sym (append_assoc date (clock_text clock) zone) ∙ (λ i. front i ++ is i)

module _ (known date clock_is zone : List ℕ) (second clock later : ℕ) (whole : known ≡ date ++ (clock_is ++ zone))
    (date_long : length date ≡ 11) (clock_long : length clock_is ≡ 8) (has : HasClock known clock) (after : clock ≤ later)
    (inside : later < seconds_a_day) (years : second + (later - clock) + 360000 ≤ end_second) where
  moved : (shown : ℕ) → date ++ clock_is ≡ date_time shown → date ++ clock_text later ≡ date_time (shown + (later - clock))
  moved shown is =
      date_time_later date shown clock later date_long
      (ap (λ t. date ++ t) (sym (shown_by known date clock_is zone second clock whole date_long clock_long has (omega (arith, after, inside)))) ∙ is)
      after inside

  is_later : IsTimeOf known second → IsTimeOf (date ++ (clock_text later ++ zone)) (second + (later - clock))
  is_later (in_years, inl utc) =
      let parts = front_of known date clock_is zone second clock whole date_long clock_long (date_time second) (codes "Z")
      (date_time_length second) (utc ∙ sym (date_time_utc second)) in (
        omega (arith, years),
        inl (later_text date zone (codes "Z") later (second + (later - clock)) (moved second parts.0) parts.1
            ∙ date_time_utc (second + (later - clock))),
      )
  is_later (in_years, inr local) =
      let parts = front_of known date clock_is zone second clock whole date_long clock_long (date_time local.shown) (offset_text local.offset)
      (date_time_length local.shown) local.text_is in
      let other : IsLocal (date ++ (clock_text later ++ zone)) (second + (later - clock)) = record {
        shown = local.shown + (later - clock);
        offset = local.offset;
        years = omega (arith, ints, local.shown_is, local.near, years);
        near = local.near;
        text_is = later_text date zone (offset_text local.offset) later (local.shown + (later - clock)) (moved local.shown parts.0) parts.1;
        shown_is = omega (arith, ints, local.shown_is);
      } in
      (omega (arith, years), inr other)

-- a text has this time of day
pub has_clock : (text date clock_is zone : List ℕ) (clock : ℕ) → text ≡ date ++ (clock_is ++ zone) → length date ≡ 11 → length clock_is ≡ 8 →
    clock_is ≡ clock_text clock → HasClock text clock
has_clock text date clock_is zone clock whole date_long clock_long is = λ inside.
    ap (λ t. take 8 (drop 11 t)) whole ∙ ap (take 8) (drop_at date (clock_is ++ zone) 11 date_long) ∙ take_at clock_is zone 8 clock_long ∙ is

-- a text with the date of a known time, and what follows that, has a later time of day
pub later_time :
    (known time date clock_is other zone : List ℕ) (second clock later : ℕ) → known ≡ date ++ (clock_is ++ zone) →
    time ≡ date ++ (other ++ zone) → length date ≡ 11 → length clock_is ≡ 8 → length other ≡ 8 → HasClock known clock → IsTimeOf known second →
    clock ≤ later → (later < seconds_a_day) × (other ≡ clock_text later) → second + (later - clock) + 360000 ≤ end_second →
    IsLater second clock time later
later_time known time date clock_is other zone second clock later whole time_is date_long clock_long other_long has is after (inside, shown) years = (
  after,
  has_clock time date other zone later time_is date_long other_long shown,
  subst (λ t. IsTimeOf t (second + (later - clock))) (sym (time_is ∙ ap (λ t. date ++ (t ++ zone)) shown))
      (is_later known date clock_is zone second clock later whole date_long clock_long has after inside years is),
)
