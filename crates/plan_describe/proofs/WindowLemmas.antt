-- Evenly spaced times, and the windows of several runs of hours, have just the times of their series.
use Rattle.std.proofs.Common.{◌≡◌, ℕ, ◌+◌, ◌-◌, ◌*◌, ◌/◌, ◌%◌, ◌<◌, ◌≤◌, Bool, true, false, ◌&&◌, ◌||◌, ◌==◌, nat_le, nat_lt, if◌then◌else◌, List, [], ◌∷◌, ◌++◌, Option, Some, None, refl, ap, sym, ◌∙◌, arith, inl, inr}
use Rattle.std.specs.List.{list_any}
use Rattle.std.proofs.lemmas.Bool.{and_parts, cases_lt}
use Rattle.std.proofs.lemmas.Bool.Decides.{nat_tests}
use Rattle.std.proofs.lemmas.List.Folds.{list_any-append}
use Rattle.std.proofs.Math.Nat.{mod-eq_of_lt, mod-one, mul-add-mod_self_right}
use Rattle.plan_words.specs.declared.names.TimeUnit.TheVariants.{Second, Minute, Hour}
use Rattle.plan_words.specs.declared.tree.Span.{Span}
use Rattle.plan_words.specs.declared.tree.Window.{Window}
use Rattle.plan_words.specs.Tree.{Time, WholeDay, Windows}
use Rattle.plan_words.specs.Meaning.{second_of_day, seconds_in, span_has, steps_have, time_has, window_has}
use Rattle.plan_describe.specs.declared.series.Series.{Series}
use Rattle.plan_describe.specs.declared.series.Series.TheVariants.{One, Even, Uneven}
use Rattle.plan_describe.specs.Numbers.{runs}
use Rattle.plan_describe.specs.Series.{day, is_series, scaled, series_has, series_of_span, sums}
use Rattle.plan_describe.specs.TimeSaid.{evenly_said, step_count, step_unit, time_at_second, window, window_said, windows_after, windows_with}
use Rattle.plan_describe.proofs.NumbersLemmas.{AreSpans, equal_test, ones, or_none}
use Rattle.plan_describe.proofs.SeriesLemmas.{IsSeries, parts_are_series, sums_fine, sums_have}

-- ---- steps and seconds

unit_by :
    (d : ℕ) (a b : Bool) → (d % 3600 == 0) ≡ a → (d % 60 == 0) ≡ b →
    (if a then d / 3600 else (if b then d / 60 else d)) * seconds_in (if a then Hour else (if b then Minute else Second)) ≡ d
unit_by d true b is_hours is_minutes = let none : d % 3600 ≡ 0 = equal_test (d % 3600) 0 is_hours in omega arith
unit_by d false true is_hours is_minutes = let none : d % 60 ≡ 0 = equal_test (d % 60) 0 is_minutes in omega arith
unit_by d false false is_hours is_minutes = omega arith

-- a step is its count of units
pub step_is : (d : ℕ) → step_count d * seconds_in (step_unit d) ≡ d
step_is d = unit_by d (d % 3600 == 0) (d % 60 == 0) refl refl

pub second_is : (t : ℕ) → t < 86400 → second_of_day (time_at_second t) ≡ t
second_is t below = omega arith

pub lt_test : (v w : ℕ) → nat_lt v w ≡ true → v < w
lt_test v w is = grind (arith, nat_tests)

-- a window has the times of its series
window_is : (f l d t : ℕ) → f ≤ l → l < 86400 → window_has d t (window f l) ≡ steps_have f l d t
window_is f l d t order below =
    ap (λ a. steps_have a (second_of_day (time_at_second l)) d t) (second_is f (omega arith)) ∙ ap (λ b. steps_have f b d t) (second_is l below)

-- ---- evenly spaced times

round_in : (v last d m : ℕ) → v ≤ last → (m == 0) ≡ (nat_le 0 v && (nat_le v last && (m == 0)))
round_in v last d m fits = grind (arith, nat_tests)

round_out : (v last m : ℕ) → last < v → 0 < m → (m == 0) ≡ (nat_le 0 v && (nat_le v last && (m == 0)))
round_out v last m over some = grind (arith, nat_tests)

split_at : (v last d : ℕ) → 0 < d → last < v → last % d ≡ 0 → v ≡ last / d * d + (v - last)
split_at v last d some over multiple = omega arith

-- the multiples of a step that goes round
round_has : (total d last v : ℕ) → 0 < d → last + d ≡ total → v < total → last % d ≡ 0 → (v % d == 0) ≡ steps_have 0 last d v
round_has total d last v some all below multiple =
    let same : v - 0 ≡ v = omega arith in
    ap (λ x. x) (elim (cases_lt last v) as (λ _. (v % d == 0) ≡ (nat_le 0 v && (nat_le v last && (v % d == 0)))) [
      | inr fits ↦ round_in v last d (v % d) fits
      | inl over ↦
          let k = last / d in
          let split : v ≡ k * d + (v - last) = split_at v last d some over multiple in
          let rest : v % d ≡ v - last = ap (λ x. x % d) split ∙ mul-add-mod_self_right k d (v - last) ∙ mod-eq_of_lt (omega arith) in
          round_out v last (v % d) over (omega arith)
    ]) ∙ ap (λ x. nat_le 0 v && (nat_le v last && (x % d == 0))) (sym same)

-- the same of a series that begins at 0
pub round_series :
    (total f l d t : ℕ) → IsSeries (Even f l d) → ((f == 0) && (l + d == total)) ≡ true → t < total → (t % d == 0) ≡ steps_have f l d t
round_series total f l d t fine round below =
    let parts = and_parts (f == 0) (l + d == total) round in
    let at_start : f ≡ 0 = equal_test f 0 parts.0 in
    let same : l ≡ l - f = omega arith in
    round_has total d l t fine.moves (equal_test (l + d) total parts.1) below (ap (λ x. x % d) same ∙ fine.reaches)
    ∙ ap (λ a. steps_have a l d t) (sym at_start)

pub evenly_has :
    (all_hours : Bool) (s : Series) (t : ℕ) (time : Time) → IsSeries s → t < 86400 → evenly_said all_hours s ≡ Some time →
    (time_has time t ≡ series_has s t) × (is_series s ≡ true)
evenly_has all_hours (One v) t time fine below is = absurd (cc)
evenly_has all_hours (Even f l d) t time fine below is = (by_size (nat_lt l day && nat_le (f + 4 * d) l) refl is, refl)
  where
    by_hours :
        (b : Bool) → l < 86400 → (if b then None else Some (Windows (step_count d) (step_unit d) (window f l ∷ []))) ≡ Some time →
        time_has time t ≡ steps_have f l d t
    by_hours true in_day is = absurd (cc)
    by_hours false in_day is =
        let same : Windows (step_count d) (step_unit d) (window f l ∷ []) ≡ time = cc in
        ap (λ x. time_has x t) (sym same) ∙ or_none (window_has (step_count d * seconds_in (step_unit d)) t (window f l))
        ∙ ap (λ x. window_has x t (window f l)) (step_is d) ∙ window_is f l d t fine.forwards in_day

    by_round :
        (b : Bool) → l < 86400 → ((f == 0) && (l + d == day)) ≡ b →
        (if b
        then Some (WholeDay (step_count d) (step_unit d))
        else (if all_hours then None else Some (Windows (step_count d) (step_unit d) (window f l ∷ []))))
        ≡ Some time → time_has time t ≡ steps_have f l d t
    by_round true in_day round is =
        let same : WholeDay (step_count d) (step_unit d) ≡ time = cc in
        ap (λ x. time_has x t) (sym same) ∙ ap (λ x. t % x == 0) (step_is d) ∙ round_series 86400 f l d t fine round below
    by_round false in_day round is = by_hours all_hours in_day is

    by_size :
        (b : Bool) → (nat_lt l day && nat_le (f + 4 * d) l) ≡ b →
        (if b
        then (if (f == 0) && (l + d == day)
        then Some (WholeDay (step_count d) (step_unit d))
        else (if all_hours then None else Some (Windows (step_count d) (step_unit d) (window f l ∷ []))))
        else None)
        ≡ Some time → time_has time t ≡ steps_have f l d t
    by_size true fits is =
        by_round ((f == 0) && (l + d == day)) (lt_test l 86400 (and_parts (nat_lt l day) (nat_le (f + 4 * d) l) fits).0) refl is
    by_size false fits is = absurd (cc)
evenly_has all_hours Uneven t time fine below is = absurd (cc)

-- ---- windows

span_fine : (s : Span) → s.first ≤ s.last → IsSeries (series_of_span s)
span_fine s order = go (s.first == s.last)
  where
    go : (b : Bool) → IsSeries (if b then One s.first else Even s.first s.last 1)
    go true = tt
    go false = record { moves = omega arith; forwards = order; reaches = mod-one (s.last - s.first) }

span_series : (s : Span) (u : ℕ) → series_has (series_of_span s) u ≡ span_has u s
span_series s u = go (s.first == s.last) refl
  where
    one : (first last u : ℕ) → first ≡ last → (first == u) ≡ (nat_le first u && nat_le u last)
    one first last u same = grind (arith, nat_tests)

    go : (b : Bool) → (s.first == s.last) ≡ b → series_has (if b then One s.first else Even s.first s.last 1) u ≡ span_has u s
    go true same = one s.first s.last u (equal_test s.first s.last same)
    go false same = ones s.first s.last u

window_said_has :
    (d : ℕ) (s : Series) (t : ℕ) (w : Window) → IsSeries s → window_said d s ≡ Some w → (window_has d t w ≡ series_has s t) × (is_series s ≡ true)
window_said_has d (One v) t w fine is = absurd (cc)
window_said_has d (Even f l step) t w fine is = (go ((step == d) && nat_lt l day) refl is, refl)
  where
    go : (b : Bool) → ((step == d) && nat_lt l day) ≡ b → (if b then Some (window f l) else None) ≡ Some w → window_has d t w ≡ steps_have f l step t
    go true tests is =
        let parts = and_parts (step == d) (nat_lt l day) tests in
        let same : window f l ≡ w = cc in
        ap (window_has d t) (sym same) ∙ window_is f l d t fine.forwards (lt_test l 86400 parts.1)
        ∙ ap (λ x. steps_have f l x t) (sym (equal_test step d parts.0))
    go false tests is = absurd (cc)
window_said_has d Uneven t w fine is = absurd (cc)

-- the window of a run of hours
run_has :
    (d : ℕ) (hour : Series) (run : Span) (t : ℕ) (w : Window) → IsSeries hour → run.first ≤ run.last →
    window_said d (sums (scaled 3600 (series_of_span run)) 3600 hour) ≡ Some w →
    (window_has d t w ≡ (span_has (t / 3600) run && series_has hour (t % 3600))) × (is_series hour ≡ true)
run_has d hour run t w fine order is =
    let whole = sums (scaled 3600 (series_of_span run)) 3600 hour in
    let said = window_said_has d whole t w (sums_fine 3600 (series_of_span run) hour (omega arith) (span_fine run order) fine) is in
    let split : t ≡ 3600 * (t / 3600) + t % 3600 = omega arith in
    let parts = sums_have 3600 (series_of_span run) hour (t / 3600) (t % 3600) (span_fine run order) fine (omega arith) said.1 in (
      said.0 ∙ ap (series_has whole) split ∙ parts ∙ ap (λ b. b && series_has hour (t % 3600)) (span_series run (t / 3600)),
      (parts_are_series 3600 (series_of_span run) hour said.1).1,
    )

merged : (k a b r : Bool) → ((k || ((a && r) || false)) || (b && r)) ≡ (k || ((a || b) && r))
merged true a b r = refl
merged false true true true = refl
merged false true true false = refl
merged false true false true = refl
merged false true false false = refl
merged false false true true = refl
merged false false true false = refl
merged false false false true = refl
merged false false false false = refl

abbrev pub WindowsHave : (d : ℕ) (hour : Series) (runs : List Span) (known ws : List Window) (t : ℕ) → Type 0
WindowsHave d hour runs known ws t =
    list_any (window_has d t) ws ≡ (list_any (window_has d t) known || (list_any (span_has (t / 3600)) runs && series_has hour (t % 3600)))

windows_more :
    (d : ℕ) (hour : Series) (run : Span) (more : List Span) (known ws : List Window) (t : ℕ) (o : Option Window) → IsSeries hour → run.first ≤ run.last →
    window_said d (sums (scaled 3600 (series_of_span run)) 3600 hour) ≡ o →
    ((w : Window) → windows_after (known ++ w ∷ []) d hour more ≡ Some ws → WindowsHave d hour more (known ++ w ∷ []) ws t) →
    windows_with known o (λ next. windows_after next d hour more) ≡ Some ws → WindowsHave d hour (run ∷ more) known ws t
windows_more d hour run more known ws t None fine order found next is = absurd (cc)
windows_more d hour run more known ws t (Some w) fine order found next is =
    let k = list_any (window_has d t) known in
    let rest = list_any (span_has (t / 3600)) more && series_has hour (t % 3600) in
    next w is ∙ ap (λ x. x || rest) (list_any-append (window_has d t) known (w ∷ []))
    ∙ ap (λ x. (k || (x || false)) || rest) (run_has d hour run t w fine order found).0
    ∙ merged k (span_has (t / 3600) run) (list_any (span_has (t / 3600)) more) (series_has hour (t % 3600))

pub windows_have :
    (d : ℕ) (hour : Series) (runs : List Span) (known ws : List Window) (t : ℕ) → IsSeries hour → AreSpans runs →
    windows_after known d hour runs ≡ Some ws → WindowsHave d hour runs known ws t
windows_have d hour [] known ws t fine spans is =
    let same : known ≡ ws = cc in ap (list_any (window_has d t)) (sym same) ∙ sym (or_none (list_any (window_has d t) known))
windows_have d hour (run ∷ more) known ws t fine spans is =
    windows_more d hour run more known ws t (window_said d (sums (scaled 3600 (series_of_span run)) 3600 hour)) fine spans.0 refl
    (λ w. windows_have d hour more (known ++ w ∷ []) ws t fine spans.1) is

-- if there is a window, the times of an hour are evenly spaced
pub hour_is_series :
    (d : ℕ) (hour : Series) (run : Span) (more : List Span) (ws : List Window) → IsSeries hour → run.first ≤ run.last →
    windows_after [] d hour (run ∷ more) ≡ Some ws → is_series hour ≡ true
hour_is_series d hour run more ws fine order is = go (window_said d (sums (scaled 3600 (series_of_span run)) 3600 hour)) refl is
  where
    go :
        (o : Option Window) → window_said d (sums (scaled 3600 (series_of_span run)) 3600 hour) ≡ o →
        windows_with [] o (λ next. windows_after next d hour more) ≡ Some ws → is_series hour ≡ true
    go None found is = absurd (cc)
    go (Some w) found is = (run_has d hour run 0 w fine order found).1
