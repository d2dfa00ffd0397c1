-- Which starts of a job belong to a span: those from `first_second` on, before the span's end (`planned_starts`). For what a
-- collector holds, by HeldLemmas.antt. Before `first_second` no window meets the span, and from it on each does. For jobs
-- without delays that is the span's start, so the agenda of windows is the agenda (`nominal_agenda`).
use Rattle.std.proofs.Common.{◌≡◌, ℕ, zero, suc, ◌+◌, ◌-◌, ◌<◌, ◌≤◌, Bool, true, false, cond, ◌&&◌, List, [], ◌∷◌, ◌++◌, length, map, filter, Some, refl, ap, sym, ◌∙◌, arith}
use Rattle.std.specs.Prelude.{nat_lt, slice_get, slice_index}
use Rattle.std.specs.List.{range_with_len, flat_map}
use Rattle.std.proofs.lemmas.Bool.{cases_lt, lt-ltb, le-ltb, le-leb, lt-leb}
use Rattle.plan_next.specs.Span.{Bounds}
use Rattle.plan_next.specs.Starts.{is_start, passing, starts}
use Rattle.plan_next.specs.StartsLaws.{passing-append, passing-none}
use Rattle.plan_rules.specs.Delays.{nominal}
use Rattle.plan_rules.specs.Job.{JobParts}
use Rattle.plan_collect.specs.Agenda.{row_from, agenda, rules_of}
use Rattle.plan_collect.specs.Collecting.{firsts_of}
use Rattle.plan_collect.specs.Windows.{Timing, timings_of, meets, first_second, windows_from, agenda_of_windows, WithoutDelaysIsAgenda}
use Rattle.std.proofs.lemmas.Bool.Decides.{nat_tests}
use Rattle.std.proofs.lemmas.Grind.{common_steps}

-- ---- where windows meet the span

pub first-full : (span : Bounds) (delay : ℕ) → span.since < span.upto → first_second span delay ≡ span.since - delay
first-full span delay some = let is : nat_lt span.since span.upto ≡ true = lt-ltb _ _ some in rw is refl

pub first-empty : (span : Bounds) (delay : ℕ) → span.upto ≤ span.since → first_second span delay ≡ span.since
first-empty span delay none = let is : nat_lt span.since span.upto ≡ false = le-ltb _ _ none in rw is refl

-- it is not after the span's start
pub first-since : (span : Bounds) (delay : ℕ) → first_second span delay ≤ span.since
first-since span delay = grind (arith, nat_tests, cases_lt, first-full, first-empty)

meets_not : (span : Bounds) (delay second : ℕ) → span.since ≤ span.upto → second < first_second span delay → meets span delay second ≡ false
meets_not span delay second ordered before = grind (arith, nat_tests, cases_lt, first-full, lt-ltb, lt-leb, le-ltb)

meets_from :
    (span : Bounds) (delay second : ℕ) → span.since ≤ span.upto → first_second span delay ≤ second → second < span.upto →
    meets span delay second ≡ true
meets_from span delay second ordered from before = grind (arith, nat_tests, cases_lt, first-full, lt-ltb, le-leb, first-empty)

-- ---- the starts of one job

-- a start of the job whose window meets the span
abbrev pub is_planned : Timing → Bounds → ℕ → Bool
is_planned timing span second = is_start timing.rule second && meets span timing.delay second

and_true : (a b : Bool) → b ≡ true → (a && b) ≡ a
and_true true b is = is
and_true false b is = refl

and_false : (a b : Bool) → b ≡ false → (a && b) ≡ false
and_false true b is = is
and_false false b is = refl

-- tests that agree in a range
same_filter :
    (test other : ℕ → Bool) (a n : ℕ) → ((k : ℕ) → a ≤ k → k < a + n → test k ≡ other k) →
    filter test (range_with_len a n) ≡ filter other (range_with_len a n)
same_filter test other a zero same = refl
same_filter test other a (suc n) same =
    let here : test a ≡ other a = same a (omega arith) (omega arith) in
    let later = same_filter test other (a + 1) n (λ k low high. same k (omega arith) (omega arith)) in
    λ i. cond (here i) (a ∷ later i) (later i)

-- the starts of a job that belong to the span are those from its first second on
pub planned_starts :
    (timing : Timing) (span : Bounds) → span.since ≤ span.upto →
    filter (is_planned timing span) (range_with_len 0 span.upto) ≡ starts timing.rule (first_second span timing.delay) span.upto
unfolding passing
planned_starts timing span ordered =
    let first = first_second span timing.delay in
    let low : first ≤ span.since = first-since span timing.delay in
    let test = is_planned timing span in
    let whole : span.upto - 0 ≡ span.upto = omega arith in
    let before : passing test 0 first ≡ [] = passing-none test 0 first
    (λ n from lt. and_false (is_start timing.rule n) (meets span timing.delay n) (meets_not span timing.delay n ordered lt)) in
    let after : passing test first span.upto ≡ starts timing.rule first span.upto =
    same_filter test (is_start timing.rule) first (span.upto - first)
    (λ n from lt. and_true (is_start timing.rule n) (meets span timing.delay n)
    (meets_from span timing.delay n ordered from (omega arith))) in
    ap (λ n. filter test (range_with_len 0 n)) (sym whole)
    ∙ passing-append test 0 first span.upto (omega arith) (omega arith)
    ∙ ap (λ xs. xs ++ passing test first span.upto) before
    ∙ after

-- ---- the first seconds of jobs

-- the first second of the job at a place
pub first_of :
    (span : Bounds) (timings : List Timing) (job : ℕ) (timing : Timing) → slice_get timings job ≡ Some timing →
    slice_index (firsts_of span timings) job ≡ first_second span timing.delay
first_of span [] job timing is = cc
first_of span (own ∷ timings) zero timing is = grind (arith, nat_tests, common_steps)
first_of span (own ∷ timings) (suc job) timing is = first_of span timings job timing is

-- the timing of each job
pub record IsTimingAt (timings : List Timing) (job : ℕ) : Type 0 where
  pub timing : Timing
  pub there : slice_get timings job ≡ Some timing

pub timing_at : (timings : List Timing) (job : ℕ) → job < length timings → IsTimingAt timings job
timing_at [] job lt = absurd (omega arith)
timing_at (timing ∷ timings) zero lt = record { timing = timing; there = refl }
timing_at (timing ∷ timings) (suc job) lt =
    let later = timing_at timings job (omega arith) in
    record { timing = later.timing; there = later.there }

-- ---- jobs without delays

-- rows that have no entries are skipped
skip_rows :
    (row : ℕ → List (ℕ × ℕ)) (a m n : ℕ) → ((k : ℕ) → k < a + m → row k ≡ []) →
    flat_map row (range_with_len a (m + n)) ≡ flat_map row (range_with_len (a + m) n)
skip_rows row a zero n none = grind (arith, nat_tests, common_steps)
skip_rows row a (suc m) n none =
    let more : suc m + n ≡ suc (m + n) = omega arith in
    let place : a + suc m ≡ a + 1 + m = omega arith in
    let here : row a ≡ [] = none a (omega arith) in
    rw (more, place, here) (skip_rows row (a + 1) m n (λ k lt. none k (omega arith)))

same_rows :
    (row other : ℕ → List (ℕ × ℕ)) (a n : ℕ) → ((k : ℕ) → a ≤ k → k < a + n → row k ≡ other k) →
    flat_map row (range_with_len a n) ≡ flat_map other (range_with_len a n)
same_rows row other a zero same = refl
same_rows row other a (suc n) same =
    let here : row a ≡ other a = same a (omega arith) (omega arith) in
    let later = same_rows row other (a + 1) n (λ k low high. same k (omega arith) (omega arith)) in
    λ i. here i ++ later i

no_windows :
    (job : ℕ) (jobs : List JobParts) (span : Bounds) (second : ℕ) → span.since ≤ span.upto → second < span.since →
    windows_from job (timings_of (map nominal jobs)) span second ≡ []
no_windows job [] span second ordered before = refl
no_windows job (first ∷ jobs) span second ordered before = grind (arith, nat_tests, meets_not, and_false, cases_lt, first-full, first-empty, no_windows (job + 1) jobs span second ordered before)

windows_are_starts :
    (job : ℕ) (jobs : List JobParts) (span : Bounds) (second : ℕ) → span.since ≤ second → second < span.upto →
    windows_from job (timings_of (map nominal jobs)) span second ≡ row_from job (rules_of jobs) second
windows_are_starts job [] span second from before = refl
windows_are_starts job (first ∷ jobs) span second from before =
    let low : first_second span 0 ≤ span.since = first-since span 0 in
    let always : meets span 0 second ≡ true = meets_from span 0 second (omega arith) (omega arith) before in
    let is : (is_start first.rule second && meets span 0 second) ≡ is_start first.rule second =
    and_true (is_start first.rule second) _ always in
    let later = windows_are_starts (job + 1) jobs span second from before in
    λ i. cond (is i) ((second, job) ∷ later i) (later i)

pub nominal_agenda : WithoutDelaysIsAgenda
unfolding agenda agenda_of_windows
nominal_agenda jobs span ordered =
    let windows = windows_from 0 (timings_of (map nominal jobs)) span in
    let whole : span.upto ≡ span.since + (span.upto - span.since) = omega arith in
    let start : 0 + span.since ≡ span.since = omega arith in
    ap (λ n. flat_map windows (range_with_len 0 n)) whole
    ∙ skip_rows windows 0 span.since (span.upto - span.since) (λ k lt. no_windows 0 jobs span k ordered (omega arith))
    ∙ ap (λ n. flat_map windows (range_with_len n (span.upto - span.since))) start
    ∙ same_rows windows (row_from 0 (rules_of jobs)) span.since (span.upto - span.since)
    (λ k low high. windows_are_starts 0 jobs span k low (omega arith))
