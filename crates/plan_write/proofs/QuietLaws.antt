-- No job may start within a gap of an agenda. A second of a window lies outside of each pair between windows: a pair of an
-- earlier entry, or of the window's own, ends before it, and where a later one starts the window was reached. By induction
-- over the seconds before the span's end, and in each row over the timings.
use Rattle.std.proofs.Common.{◌≡◌, ℕ, zero, suc, ◌+◌, ◌<◌, ◌≤◌, ◌⊎◌, ◌&&◌, Bool, true, max, List, [], ◌∷◌, ◌++◌, map, filter, Some, inl, inr, ap, sym, subst, ◌∙◌, arith, lt-ltb, le-leb}
use Rattle.std.specs.Prelude.{slice_get, option_map}
use Rattle.std.proofs.lemmas.Bool.Decides.{nat_tests}
use Rattle.std.proofs.lemmas.Grind.{common_steps}
use Rattle.std.specs.List.{range_with_len, flat_map}
use Rattle.std.proofs.lemmas.Bool.{and_from, cases_Bool, cases_lt}
use Rattle.std.proofs.lemmas.Option.{slice_get-map}
use Rattle.plan_next.specs.Starts.{is_start}
use Rattle.plan_rules.specs.Job.{JobParts}
use Rattle.plan_collect.specs.Span.{Bounds}
use Rattle.plan_collect.specs.Windows.{Timing, agenda_of_windows, meets, timing_of, timings_of, windows_from}
use Rattle.plan_write.specs.Quiet.{between, delay_of, is_gap, window_of, NothingStartsInGaps}

-- the second isn't strictly between the two numbers of a pair
abbrev Outside : (second : ℕ) → ℕ × ℕ → Type 0
Outside second pair = (second ≤ pair.0) ⊎ (pair.1 ≤ second)

abbrev OutsideAll : (second : ℕ) → List (ℕ × ℕ) → Type 0
OutsideAll second [] = Unit {0}
OutsideAll second (pair ∷ later) = Outside second pair × OutsideAll second later

-- what is between the windows of these entries
abbrev pairs : List JobParts → (reach upto : ℕ) → List (ℕ × ℕ) → List (ℕ × ℕ)
pairs jobs reach upto entries = between reach upto (map (window_of jobs) entries)

-- a second that was reached
reached :
    (second reach upto : ℕ) (windows : List (ℕ × ℕ)) → second ≤ reach → OutsideAll second (between reach upto windows)
reached second reach upto [] le = (inl le, tt)
reached second reach upto (window ∷ later) le = (inl le, reached second (max reach window.1) upto later (omega arith))

-- windows that don't open later
row_outside :
    (jobs : List JobParts) (span : Bounds) (second upto n job : ℕ) (timings : List Timing) (rest : List (ℕ × ℕ)) → n ≤ second →
    ((reach : ℕ) → OutsideAll second (pairs jobs reach upto rest)) → (reach : ℕ) →
    OutsideAll second (pairs jobs reach upto (windows_from job timings span n ++ rest))
row_outside jobs span second upto n job [] rest low later reach = later reach
row_outside jobs span second upto n job (timing ∷ timings) rest low later reach =
    elim (cases_Bool (is_start timing.rule n && meets span timing.delay n)) [
      | inl is ↦ rw is (
        inr low,
        row_outside jobs span second upto n (job + 1) timings rest low later
            (max reach (n + delay_of (slice_get jobs job))),
      )
      | inr not ↦ rw not (row_outside jobs span second upto n (job + 1) timings rest low later reach)
    ]

-- a second of a window that opens now
row_reached :
    (jobs : List JobParts) (span : Bounds) (second upto n job number : ℕ) (timings : List Timing) (rest : List (ℕ × ℕ))
    (timing : Timing) → slice_get timings number ≡ Some timing → delay_of (slice_get jobs (job + number)) ≡ timing.delay →
    (is_start timing.rule n && meets span timing.delay n) ≡ true → n ≤ second → second ≤ n + timing.delay → (reach : ℕ) →
    OutsideAll second (pairs jobs reach upto (windows_from job timings span n ++ rest))
row_reached jobs span second upto n job number [] rest timing there own opens low high reach = cc
row_reached jobs span second upto n job zero (first ∷ timings) rest timing there own opens low high reach =
    let same : timing ≡ first = cc in
    let is : (is_start first.rule n && meets span first.delay n) ≡ true =
    subst (λ (t : Timing). (is_start t.rule n && meets span t.delay n) ≡ true) same opens in
    let here : job + 0 ≡ job = omega arith in
    let delay : delay_of (slice_get jobs job) ≡ timing.delay = ap (λ k. delay_of (slice_get jobs k)) (sym here) ∙ own in
    let reach_now = max reach (n + delay_of (slice_get jobs job)) in
    rw is (
      inr low,
      reached second reach_now upto (map (window_of jobs) (windows_from (job + 1) timings span n ++ rest))
          (omega (arith, delay)),
    )
row_reached jobs span second upto n job (suc number) (first ∷ timings) rest timing there own opens low high reach =
    let next : job + suc number ≡ (job + 1) + number = omega arith in
    let later = row_reached jobs span second upto n (job + 1) number timings rest timing there
    (ap (λ k. delay_of (slice_get jobs k)) (sym next) ∙ own) opens low high in
    elim (cases_Bool (is_start first.rule n && meets span first.delay n)) [
      | inl is ↦ rw is (inr low, later (max reach (n + delay_of (slice_get jobs job))))
      | inr not ↦ rw not (later reach)
    ]

-- all windows open before the span's end, and the second is after it
seconds_before :
    (jobs : List JobParts) (timings : List Timing) (span : Bounds) (second upto seconds from : ℕ) → from + seconds ≤ second →
    upto ≤ second → (reach : ℕ) →
    OutsideAll second (pairs jobs reach upto (flat_map (windows_from 0 timings span) (range_with_len from seconds)))
seconds_before jobs timings span second upto zero from few past reach = (inr past, tt)
seconds_before jobs timings span second upto (suc seconds) from few past reach = grind (arith, nat_tests, row_outside, seconds_before jobs timings span second upto seconds (from + 1) (omega arith) past)

-- the second is one of a window that opens at `n`, not yet passed
seconds_reached :
    (jobs : List JobParts) (timings : List Timing) (span : Bounds) (second upto n number : ℕ) (timing : Timing) →
    slice_get timings number ≡ Some timing → delay_of (slice_get jobs (0 + number)) ≡ timing.delay →
    (is_start timing.rule n && meets span timing.delay n) ≡ true → n ≤ second → second ≤ n + timing.delay →
    (seconds from : ℕ) → from ≤ n → n < from + seconds → (reach : ℕ) →
    OutsideAll second (pairs jobs reach upto (flat_map (windows_from 0 timings span) (range_with_len from seconds)))
seconds_reached jobs timings span second upto n number timing there own opens low high zero from not_yet in_time reach = grind (arith, nat_tests, common_steps)
seconds_reached jobs timings span second upto n number timing there own opens low high (suc seconds) from not_yet in_time reach =
    let later = flat_map (windows_from 0 timings span) (range_with_len (from + 1) seconds) in
    elim (cases_lt from n) [
      | inl lt ↦ row_outside jobs span second upto from 0 timings later (omega (arith, lt, low))
          (seconds_reached jobs timings span second upto n number timing there own opens low high seconds (from + 1)
          (omega (arith, lt)) (omega (arith, in_time))) reach
      | inr at ↦
          let same : n ≡ from = omega (arith, not_yet, at) in
          subst (λ m. OutsideAll second (pairs jobs reach upto (windows_from 0 timings span m ++ later))) same
          (row_reached jobs span second upto n 0 number timings later timing there own opens low high reach)
    ]

-- a second of a window is outside of what is between the windows of the agenda
outside :
    (jobs : List JobParts) (span : Bounds) (number start second : ℕ) (job : JobParts) → slice_get jobs number ≡ Some job →
    is_start job.rule start ≡ true → start ≤ second → second ≤ start + job.delay →
    OutsideAll second (pairs jobs span.since span.upto (agenda_of_windows (timings_of jobs) span))
unfolding agenda_of_windows
outside jobs span number start second job own is low high =
    let timings = timings_of jobs in
    elim (cases_lt second span.upto) [
      | inr past ↦ seconds_before jobs timings span second span.upto span.upto 0 (omega (arith, past)) past span.since
      | inl inside ↦ elim (cases_lt span.since second) [
        | inr early ↦ reached second span.since span.upto
            (map (window_of jobs) (flat_map (windows_from 0 timings span) (range_with_len 0 span.upto))) early
        | inl later ↦
            let opens : (is_start job.rule start && meets span job.delay start) ≡ true = and_from _ _ is
            (and_from _ _ (lt-ltb span.since span.upto (omega (arith, inside, later)))
            (and_from _ _ (lt-ltb start span.upto (omega (arith, inside, low)))
            (le-leb span.since (start + job.delay) (omega (arith, later, high))))) in
            let here : 0 + number ≡ number = omega arith in
            seconds_reached jobs timings span second span.upto start number (timing_of job)
            (slice_get-map timing_of jobs number ∙ ap (option_map timing_of) own)
            (ap (λ k. delay_of (slice_get jobs k)) here ∙ ap delay_of own) opens low high span.upto 0
            (omega arith) (omega (arith, inside, low)) span.since
      ]
    ]

-- so it is outside of the gaps
outside_gaps :
    (second : ℕ) (test : ℕ × ℕ → Bool) (all : List (ℕ × ℕ)) → OutsideAll second all → OutsideAll second (filter test all)
outside_gaps second test [] out = tt
outside_gaps second test (pair ∷ all) (here, later) = grind (arith, nat_tests, cases_Bool, outside_gaps second test all later)

outside_at :
    (second : ℕ) (all : List (ℕ × ℕ)) (place : ℕ) (gap : ℕ × ℕ) → OutsideAll second all → slice_get all place ≡ Some gap →
    Outside second gap
outside_at second [] place gap out is = cc
outside_at second (pair ∷ all) zero gap (here, later) is = grind (arith, nat_tests, common_steps)
outside_at second (pair ∷ all) (suc place) gap (here, later) is = outside_at second all place gap later is

pub nothing_starts : NothingStartsInGaps
nothing_starts jobs span least place number start second gap job there own is low high after until =
    let all = pairs jobs span.since span.upto (agenda_of_windows (timings_of jobs) span) in
    elim (outside_at second (filter (is_gap least) all) place gap
    (outside_gaps second (is_gap least) all (outside jobs span number start second job own is low high)) there) [
      | inl early ↦ omega (arith, early, after)
      | inr past ↦ omega (arith, past, until)
    ]
