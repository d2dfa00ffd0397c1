-- What is said of times has just these times.
use Rattle.std.proofs.Common.{◌≡◌, ℕ, ◌+◌, ◌-◌, ◌*◌, ◌/◌, ◌%◌, ◌<◌, Bool, true, false, not, ◌&&◌, ◌||◌, ◌==◌, nat_le, nat_lt, if◌then◌else◌, List, [], ◌∷◌, length, map, Option, Some, None, refl, ap, sym, subst, ◌∙◌, arith, inl, inr}
use Rattle.std.specs.List.{flat_map, list_any}
use Rattle.std.proofs.lemmas.Bool.{and_from, and_parts, and_right, or_cases}
use Rattle.std.proofs.lemmas.Bool.Decides.{nat_tests}
use Rattle.std.proofs.lemmas.List.Folds.{list_any-append}
use Rattle.std.proofs.Math.Nat.{mod-eq_of_lt}
use Rattle.plan_words.specs.declared.tree.Span.{Span}
use Rattle.plan_words.specs.declared.tree.Window.{Window}
use Rattle.plan_words.specs.Tree.{Time, Cycle, Among, AllHours, HourList, Listed, Windows, Minutes, Seconds}
use Rattle.plan_words.specs.Meaning.{hours_have, lead_has, second_of_day, some_have, span_has, steps_have, time_has, window_has}
use Rattle.plan_describe.specs.declared.series.Series.{Series}
use Rattle.plan_describe.specs.declared.series.Series.TheVariants.{One, Even, Uneven}
use Rattle.plan_describe.specs.Numbers.{has_number, is_run, is_spaced, is_steps, is_whole, last_of, least_steps, runs, values_said}
use Rattle.plan_describe.specs.Series.{is_series, scaled, series_has, series_of, sums}
use Rattle.plan_describe.specs.TimeSaid.{are_few, cycle_or, evenly_said, hour_steps, hours_said, in_hour, is_single, is_time, is_zero, lead_said, many_said, minutes_said, or_else, step_count, step_of_runs, step_unit, time_at_second, time_of_windows, time_said, times_in, units_said, windows_after, windows_said}
use Rattle.plan_describe.proofs.NumbersLemmas.{AreBelow, AreSpans, equal_test, last_below, or_none, runs_are_spans, runs_have_all, steps_have_all, values_said_have, whole_has}
use Rattle.plan_describe.proofs.WindowLemmas.{evenly_has, hour_is_series, lt_test, round_series, second_is, step_is, windows_have}
use Rattle.plan_describe.proofs.SeriesLemmas.{IsSeries, parts_are_series, scaled_one, series_of_fine, series_of_has, spaced_all, sums_fine, sums_have}

-- the times of an hour
in_hour_fine : (seconds minutes : List ℕ) → IsSeries (in_hour seconds minutes)
in_hour_fine seconds minutes =
    sums_fine 60 (series_of minutes) (scaled 1 (series_of seconds)) (omega arith) (series_of_fine minutes)
    (scaled_fine (series_of seconds) (series_of_fine seconds))
  where
    scaled_fine : (s : Series) → IsSeries s → IsSeries (scaled 1 s)
    scaled_fine s fine = let P : Series → Type 0 = λ x. IsSeries x in subst P (sym (scaled_one s)) fine

in_hour_has :
    (seconds minutes : List ℕ) (t : ℕ) → is_series (in_hour seconds minutes) ≡ true →
    series_has (in_hour seconds minutes) (t % 3600) ≡ (has_number minutes (t / 60 % 60) && has_number seconds (t % 60))
in_hour_has seconds minutes t is =
    let parts = parts_are_series 60 (series_of minutes) (scaled 1 (series_of seconds)) is in
    let split : t % 3600 ≡ 60 * (t / 60 % 60) + t % 60 = omega arith in
    let known : is_series (series_of seconds) ≡ true = ap is_series (sym (scaled_one (series_of seconds))) ∙ parts.1 in
    let P : Series → Type 0 = λ x. IsSeries x in
    ap (series_has (in_hour seconds minutes)) split
    ∙ sums_have 60 (series_of minutes) (scaled 1 (series_of seconds)) (t / 60 % 60) (t % 60) (series_of_fine minutes)
    (subst P (sym (scaled_one (series_of seconds))) (series_of_fine seconds)) (omega arith) is
    ∙ ap (λ b. b && series_has (scaled 1 (series_of seconds)) (t % 60)) (series_of_has minutes (t / 60 % 60) parts.0)
    ∙ ap (λ s. has_number minutes (t / 60 % 60) && series_has s (t % 60)) (scaled_one (series_of seconds))
    ∙ ap (λ b. has_number minutes (t / 60 % 60) && b) (series_of_has seconds (t % 60) known)

-- the order of the three tests
turned_tests : (h m s : Bool) → (h && (m && s)) ≡ (s && (m && h))
turned_tests true true true = refl
turned_tests true true false = refl
turned_tests true false true = refl
turned_tests true false false = refl
turned_tests false true true = refl
turned_tests false true false = refl
turned_tests false false true = refl
turned_tests false false false = refl

no_hour : (m s h : Bool) → h ≡ false → (s && (m && h)) ≡ false
no_hour m s h none = ap (λ x. s && x) (and_right m h none) ∙ and_right s false refl

windows_said_has :
    (all_hours : Bool) (seconds minutes hours : List ℕ) (t : ℕ) (time : Time) → t < 86400 →
    windows_said all_hours (runs hours) (in_hour seconds minutes) ≡ Some time → time_has time t ≡ is_time seconds minutes hours t
windows_said_has all_hours seconds minutes hours t time below is =
    by_size (all_hours || (nat_lt 3 (length (runs hours)) || nat_lt 3600 (step_of_runs (in_hour seconds minutes)))) is
  where
    known : (rs : List Span) (ws : List Window) → AreSpans rs →
        windows_after [] (step_of_runs (in_hour seconds minutes)) (in_hour seconds minutes) rs ≡ Some ws →
        list_any (span_has (t / 3600)) rs ≡ has_number hours (t / 3600) →
        (list_any (span_has (t / 3600)) rs && series_has (in_hour seconds minutes) (t % 3600)) ≡ is_time seconds minutes hours t
    known [] ws spans found same = sym (no_hour (has_number minutes (t / 60 % 60)) (has_number seconds (t % 60)) (has_number hours (t / 3600)) (sym same))
    known (run ∷ more) ws spans found same =
        let series = hour_is_series (step_of_runs (in_hour seconds minutes)) (in_hour seconds minutes) run more ws
        (in_hour_fine seconds minutes) spans.0 found in
        ap (λ b. b && series_has (in_hour seconds minutes) (t % 3600)) same
        ∙ ap (λ b. has_number hours (t / 3600) && b) (in_hour_has seconds minutes t series)
        ∙ turned_tests (has_number hours (t / 3600)) (has_number minutes (t / 60 % 60)) (has_number seconds (t % 60))

    by_windows : (o : Option (List Window)) → windows_after [] (step_of_runs (in_hour seconds minutes)) (in_hour seconds minutes) (runs hours) ≡ o →
        time_of_windows (step_of_runs (in_hour seconds minutes)) o ≡ Some time → time_has time t ≡ is_time seconds minutes hours t
    by_windows None found is = absurd (cc)
    by_windows (Some ws) found is =
        let d = step_of_runs (in_hour seconds minutes) in
        let same : Windows (step_count d) (step_unit d) ws ≡ time = cc in
        let spans = runs_are_spans [] hours tt in
        ap (λ x. time_has x t) (sym same) ∙ ap (λ x. list_any (window_has x t) ws) (step_is d)
        ∙ windows_have d (in_hour seconds minutes) (runs hours) [] ws t (in_hour_fine seconds minutes) spans found
        ∙ known (runs hours) ws spans found (runs_have_all (t / 3600) hours)

    by_size :
        (b : Bool) →
        (if b then None else time_of_windows (step_of_runs (in_hour seconds minutes))
        (windows_after [] (step_of_runs (in_hour seconds minutes)) (in_hour seconds minutes) (runs hours)))
        ≡ Some time → time_has time t ≡ is_time seconds minutes hours t
    by_size true is = absurd (cc)
    by_size false is = by_windows (windows_after [] (step_of_runs (in_hour seconds minutes)) (in_hour seconds minutes) (runs hours)) refl is

-- ---- listed times

same_time : (h m s t : ℕ) → h < 24 → m < 60 → s < 60 → (3600 * h + (60 * m + s) == t) ≡ ((s == t % 60) && ((m == t / 60 % 60) && (h == t / 3600)))
same_time h m s t h_below m_below s_below = grind (arith, nat_tests)

one_more : (a b x : Bool) → ((a && x) || (b && x)) ≡ ((a || b) && x)
one_more true true x = grind arith
one_more true false x = or_none x
one_more false true x = refl
one_more false false x = refl

one_more_within : (s a b x : Bool) → ((s && (a && x)) || (s && (b && x))) ≡ (s && ((a || b) && x))
one_more_within true a b x = one_more a b x
one_more_within false a b x = refl

one_more_last : (s m a b : Bool) → ((s && (m && a)) || (s && (m && b))) ≡ (s && (m && (a || b)))
one_more_last true true a b = refl
one_more_last true false a b = refl
one_more_last false m a b = refl

minute_has :
    (h m t : ℕ) (seconds : List ℕ) → h < 24 → m < 60 → AreBelow 60 seconds →
    list_any (λ time. second_of_day time == t) (map (λ s. time_at_second (3600 * h + (60 * m + s))) seconds)
    ≡ (has_number seconds (t % 60) && ((m == t / 60 % 60) && (h == t / 3600)))
minute_has h m t [] h_below m_below below = refl
minute_has h m t (s ∷ ss) h_below m_below below =
    let s_below = below.0 in
    let here = ap (λ x. x == t) (second_is (3600 * h + (60 * m + s)) (omega arith)) ∙ same_time h m s t h_below m_below s_below in
    let more = minute_has h m t ss h_below m_below below.1 in
    (λ i. here i || more i) ∙ one_more (s == t % 60) (has_number ss (t % 60)) ((m == t / 60 % 60) && (h == t / 3600))

hour_has :
    (h t : ℕ) (seconds minutes : List ℕ) → h < 24 → AreBelow 60 seconds → AreBelow 60 minutes →
    list_any (λ time. second_of_day time == t) (flat_map (λ m. map (λ s. time_at_second (3600 * h + (60 * m + s))) seconds) minutes)
    ≡ (has_number seconds (t % 60) && (has_number minutes (t / 60 % 60) && (h == t / 3600)))
hour_has h t seconds [] h_below below minutes_below = sym (and_right (has_number seconds (t % 60)) false refl)
hour_has h t seconds (m ∷ ms) h_below below minutes_below =
    let here = minute_has h m t seconds h_below minutes_below.0 below in
    let more = hour_has h t seconds ms h_below below minutes_below.1 in
    list_any-append (λ time. second_of_day time == t) (map (λ s. time_at_second (3600 * h + (60 * m + s))) seconds)
    (flat_map (λ m. map (λ s. time_at_second (3600 * h + (60 * m + s))) seconds) ms)
    ∙ (λ i. here i || more i) ∙ one_more_within (has_number seconds (t % 60)) (m == t / 60 % 60) (has_number ms (t / 60 % 60)) (h == t / 3600)

listed_has :
    (seconds minutes hours : List ℕ) (t : ℕ) → AreBelow 60 seconds → AreBelow 60 minutes → AreBelow 24 hours →
    list_any (λ time. second_of_day time == t) (times_in seconds minutes hours) ≡ is_time seconds minutes hours t
listed_has seconds minutes [] t below minutes_below hours_below =
    sym (ap (λ x. has_number seconds (t % 60) && x) (and_right (has_number minutes (t / 60 % 60)) false refl)
    ∙ and_right (has_number seconds (t % 60)) false refl)
listed_has seconds minutes (h ∷ hs) t below minutes_below hours_below =
    let here = hour_has h t seconds minutes hours_below.0 below minutes_below in
    let more = listed_has seconds minutes hs t below minutes_below hours_below.1 in
    list_any-append (λ time. second_of_day time == t)
    (flat_map (λ m. map (λ s. time_at_second (3600 * h + (60 * m + s))) seconds) minutes) (times_in seconds minutes hs)
    ∙ (λ i. here i || more i) ∙ one_more_last (has_number seconds (t % 60)) (has_number minutes (t / 60 % 60)) (h == t / 3600) (has_number hs (t / 3600))

-- ---- times by their units

lead_said_has : (values : List ℕ) (v : ℕ) → v < 60 → lead_has (lead_said values) v ≡ has_number values v
lead_said_has values v below =
    ap (λ s. lead_has (cycle_or s (values_said values)) v) (scaled_one (series_of values)) ∙ go (series_of values) refl
  where
    by_round :
        (f l d : ℕ) (b : Bool) → IsSeries (Even f l d) → steps_have f l d v ≡ has_number values v → ((f == 0) && (l + d == 60)) ≡ b →
        lead_has (if b then Cycle d else Among (values_said values)) v ≡ has_number values v
    by_round f l d true fine has round = round_series 60 f l d v fine round below ∙ has
    by_round f l d false fine has round = values_said_have values v

    go : (s : Series) → series_of values ≡ s → lead_has (cycle_or s (values_said values)) v ≡ has_number values v
    go (One w) is = values_said_have values v
    go (Even f l d) is =
        let P : Series → Type 0 = λ x. IsSeries x in
        by_round f l d ((f == 0) && (l + d == 60)) (subst P is (series_of_fine values))
        (ap (λ s. series_has s v) (sym is) ∙ series_of_has values v (ap is_series is)) refl
    go Uneven is = values_said_have values v

minutes_said_has : (minutes : List ℕ) (v : ℕ) → v < 60 → some_have (minutes_said minutes) v ≡ has_number minutes v
minutes_said_has minutes v below = go (is_whole 0 59 minutes) refl
  where
    go : (b : Bool) → is_whole 0 59 minutes ≡ b → some_have (if b then None else Some (values_said minutes)) v ≡ has_number minutes v
    go true whole = sym (whole_has 0 59 minutes v whole (omega arith) (omega arith))
    go false whole = values_said_have minutes v

-- a run or steps are spaced by the distance of the first two
spaced_by_first : (v w : ℕ) (more : List ℕ) → (is_run (v ∷ w ∷ more) || is_steps (v ∷ w ∷ more)) ≡ true → (nat_lt v w && is_spaced (w - v) w more) ≡ true
spaced_by_first v w more is =
    elim (or_cases (is_run (v ∷ w ∷ more)) (is_steps (v ∷ w ∷ more)) is) as (λ _. (nat_lt v w && is_spaced (w - v) w more) ≡ true) [
      | inl run ↦
          let parts = and_parts (nat_le 2 (length (w ∷ more))) (is_spaced 1 v (w ∷ more)) run in
          let rest = and_parts (v + 1 == w) (is_spaced 1 w more) parts.1 in
          let next : v + 1 ≡ w = equal_test (v + 1) w rest.0 in
          let one : 1 ≡ w - v = omega arith in
          and_from (nat_lt v w) (is_spaced (w - v) w more) (lt_from v w (omega arith)) (ap (λ d. is_spaced d w more) (sym one) ∙ rest.1)
      | inr steps ↦
          let parts = and_parts (nat_le least_steps (length (v ∷ w ∷ more))) (nat_le (v + 2) w && is_spaced (w - v) w more) steps in
          let rest = and_parts (nat_le (v + 2) w) (is_spaced (w - v) w more) parts.1 in
          and_from (nat_lt v w) (is_spaced (w - v) w more) (lt_from_two v w rest.0) rest.1
    ]
  where
    lt_from : (v w : ℕ) → v < w → nat_lt v w ≡ true
    lt_from v w less = grind (arith, nat_tests)

    lt_from_two : (v w : ℕ) → nat_le (v + 2) w ≡ true → nat_lt v w ≡ true
    lt_from_two v w more = grind (arith, nat_tests)

hour_steps_have :
    (v w : ℕ) (more : List ℕ) (h : ℕ) → AreBelow 24 (v ∷ w ∷ more) → (nat_lt v w && is_spaced (w - v) w more) ≡ true →
    hours_have (hour_steps v w more) h ≡ has_number (v ∷ w ∷ more) h
hour_steps_have v w more h below spaced =
    let v_below : v < 24 = below.0 in
    let last : last_of w more < 24 = last_below 24 v (w ∷ more) below in
    let first_is : v % 24 ≡ v = mod-eq_of_lt v_below in
    let last_is : last_of w more % 24 ≡ last_of w more = mod-eq_of_lt last in
    let order : v < w = lt_test v w (and_parts (nat_lt v w) (is_spaced (w - v) w more) spaced).0 in
    ap (λ a. steps_have a (last_of w more % 24) (w - v) h) first_is ∙ ap (λ b. steps_have v b (w - v) h) last_is
    ∙ steps_have_all (w - v) h v (w ∷ more) (omega arith) (spaced_all v w more spaced)

hours_said_has : (hours : List ℕ) (h : ℕ) → h < 24 → AreBelow 24 hours → hours_have (hours_said hours) h ≡ has_number hours h
hours_said_has [] h below all = refl
hours_said_has (v ∷ []) h below all = refl
hours_said_has (v ∷ w ∷ more) h below all = by_whole (is_whole 0 23 (v ∷ w ∷ more)) refl
  where
    by_steps :
        (b : Bool) → (is_run (v ∷ w ∷ more) || is_steps (v ∷ w ∷ more)) ≡ b →
        hours_have (if b then hour_steps v w more else HourList (v ∷ w ∷ more)) h ≡ has_number (v ∷ w ∷ more) h
    by_steps true steps = hour_steps_have v w more h all (spaced_by_first v w more steps)
    by_steps false steps = refl

    by_whole :
        (b : Bool) → is_whole 0 23 (v ∷ w ∷ more) ≡ b →
        hours_have
        (if b
        then AllHours
        else (if is_run (v ∷ w ∷ more) || is_steps (v ∷ w ∷ more) then hour_steps v w more else HourList (v ∷ w ∷ more))) h
        ≡ has_number (v ∷ w ∷ more) h
    by_whole true whole = sym (whole_has 0 23 (v ∷ w ∷ more) h whole (omega arith) (omega arith))
    by_whole false whole = by_steps (is_run (v ∷ w ∷ more) || is_steps (v ∷ w ∷ more)) refl

zero_has : (seconds : List ℕ) (v : ℕ) → is_zero seconds ≡ true → (v == 0) ≡ has_number seconds v
zero_has [] v is = absurd (cc)
zero_has (w ∷ []) v is = zero_test w v (equal_test w 0 is) ∙ sym (or_none (w == v))
  where
    zero_test : (w v : ℕ) → w ≡ 0 → (v == 0) ≡ (w == v)
    zero_test w v none = grind (arith, nat_tests)
zero_has (w ∷ x ∷ more) v is = absurd (cc)

units_said_has :
    (seconds minutes hours : List ℕ) (t : ℕ) → t < 86400 → AreBelow 24 hours → time_has (units_said seconds minutes hours) t ≡ is_time seconds minutes hours t
units_said_has seconds minutes hours t below all = go (is_zero seconds) refl
  where
    go :
        (b : Bool) → is_zero seconds ≡ b →
        time_has
        (if b
        then Minutes (lead_said minutes) (hours_said hours)
        else Seconds (lead_said seconds) (minutes_said minutes) (hours_said hours)) t
        ≡ is_time seconds minutes hours t
    go true none =
        let a = zero_has seconds (t % 60) none in
        let b = lead_said_has minutes (t / 60 % 60) (omega arith) in
        let c = hours_said_has hours (t / 3600) (omega arith) all in
        λ i. a i && (b i && c i)
    go false none =
        let a = lead_said_has seconds (t % 60) (omega arith) in
        let b = minutes_said_has minutes (t / 60 % 60) (omega arith) in
        let c = hours_said_has hours (t / 3600) (omega arith) all in
        λ i. a i && (b i && c i)

-- ---- the choice

or_else_has :
    (o : Option Time) (later : Time) (t : ℕ) (v : Bool) → ((time : Time) → o ≡ Some time → time_has time t ≡ v) → time_has later t ≡ v →
    time_has (or_else o later) t ≡ v
or_else_has None later t v here there = there
or_else_has (Some time) later t v here there = here time refl

many_said_has :
    (seconds minutes hours : List ℕ) (t : ℕ) → t < 86400 → AreBelow 60 seconds → AreBelow 60 minutes → AreBelow 24 hours →
    time_has (many_said seconds minutes hours (is_whole 0 23 hours) (in_hour seconds minutes)) t ≡ is_time seconds minutes hours t
many_said_has seconds minutes hours t below seconds_below minutes_below hours_below =
    or_else_has (windows_said (is_whole 0 23 hours) (runs hours) (in_hour seconds minutes))
    (if not (is_whole 0 23 hours) && (is_single minutes && is_single seconds) then Listed (times_in seconds minutes hours)
    else units_said seconds minutes hours)
    t (is_time seconds minutes hours t) (λ time. windows_said_has (is_whole 0 23 hours) seconds minutes hours t time below)
    (go (not (is_whole 0 23 hours) && (is_single minutes && is_single seconds)))
  where
    go : (b : Bool) → time_has (if b then Listed (times_in seconds minutes hours) else units_said seconds minutes hours) t ≡ is_time seconds minutes hours t
    go true = listed_has seconds minutes hours t seconds_below minutes_below hours_below
    go false = units_said_has seconds minutes hours t below hours_below

-- what is said of times has just these times
pub time_said_has :
    (seconds minutes hours : List ℕ) (t : ℕ) → t < 86400 → AreBelow 60 seconds → AreBelow 60 minutes → AreBelow 24 hours →
    time_has (time_said seconds minutes hours) t ≡ is_time seconds minutes hours t
time_said_has seconds minutes hours t below seconds_below minutes_below hours_below =
    or_else_has (evenly_said (is_whole 0 23 hours) (sums (scaled 3600 (series_of hours)) 3600 (in_hour seconds minutes)))
    (if are_few seconds minutes hours
    then Listed (times_in seconds minutes hours)
    else many_said seconds minutes hours (is_whole 0 23 hours) (in_hour seconds minutes))
    t (is_time seconds minutes hours t) evenly (go (are_few seconds minutes hours))
  where
    evenly :
        (time : Time) → evenly_said (is_whole 0 23 hours) (sums (scaled 3600 (series_of hours)) 3600 (in_hour seconds minutes)) ≡ Some time →
        time_has time t ≡ is_time seconds minutes hours t
    evenly time is =
        let whole = sums (scaled 3600 (series_of hours)) 3600 (in_hour seconds minutes) in
        let fine = sums_fine 3600 (series_of hours) (in_hour seconds minutes) (omega arith) (series_of_fine hours) (in_hour_fine seconds minutes) in
        let said = evenly_has (is_whole 0 23 hours) whole t time fine below is in
        let parts = parts_are_series 3600 (series_of hours) (in_hour seconds minutes) said.1 in
        let split : t ≡ 3600 * (t / 3600) + t % 3600 = omega arith in
        said.0 ∙ ap (series_has whole) split
        ∙ sums_have 3600 (series_of hours) (in_hour seconds minutes) (t / 3600) (t % 3600) (series_of_fine hours)
        (in_hour_fine seconds minutes) (omega arith) said.1
        ∙ ap (λ b. b && series_has (in_hour seconds minutes) (t % 3600)) (series_of_has hours (t / 3600) parts.0)
        ∙ ap (λ b. has_number hours (t / 3600) && b) (in_hour_has seconds minutes t parts.1)
        ∙ turned_tests (has_number hours (t / 3600)) (has_number minutes (t / 60 % 60)) (has_number seconds (t % 60))

    go :
        (b : Bool) →
        time_has
        (if b
        then Listed (times_in seconds minutes hours)
        else many_said seconds minutes hours (is_whole 0 23 hours) (in_hour seconds minutes)) t
        ≡ is_time seconds minutes hours t
    go true = listed_has seconds minutes hours t seconds_below minutes_below hours_below
    go false = many_said_has seconds minutes hours t below seconds_below minutes_below hours_below
