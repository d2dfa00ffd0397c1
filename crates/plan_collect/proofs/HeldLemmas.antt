-- What a collector holds, compared with the agenda: for `has_room`, `keep` and `finish` of `Collector`, by
-- HoldsLemmas.antt. What is held is ordered by job, and the agenda by second. So both are weighed: `weigh-rows` takes the
-- first job's starts out of all rows, and the rest is induction over the jobs, with a job's starts cut in two.
use Rattle.std.proofs.Common.{◌≡◌, ℕ, zero, suc, ◌+◌, ◌<◌, ◌≤◌, Bool, true, false, cond, List, [], ◌∷◌, ◌++◌, length, map, filter, Some, ◌==◌, refl, ap, sym, subst, ◌∙◌, arith}
use Rattle.std.specs.Prelude.{slice_get, slice_index, slice_set}
use Rattle.std.specs.List.{range_with_len, flat_map, list_all}
use Rattle.std.proofs.lemmas.Bool.{and_parts, eqb-true}
use Rattle.std.proofs.lemmas.List.{length-map, map-append}
use Rattle.plan_match.specs.declared.rule.Rule.{Rule}
use Rattle.plan_next.specs.Starts.{is_start, starts}
use Rattle.plan_next.specs.StartsLaws.{passing-append}
use Rattle.plan_next.specs.Span.{Bounds}
use Rattle.plan_collect.specs.Collecting.{held_from, weigh}
use Rattle.plan_collect.specs.Windows.{Timing, first_second, windows_from}
use Rattle.plan_collect.proofs.StartsLemmas.{weigh-append}
use Rattle.plan_collect.proofs.WindowsLemmas.{is_planned, planned_starts}
use Rattle.std.proofs.lemmas.Bool.Decides.{nat_tests}

-- the entries of one job
abbrev pub entries_of : (job : ℕ) → List ℕ → List (ℕ × ℕ)
entries_of job seconds = map (λ second. (second, job)) seconds

pub length-entries_of : (job : ℕ) (xs : List ℕ) → length (entries_of job xs) ≡ length xs
length-entries_of job xs = length-map xs (λ second. (second, job))

-- a part of a rule's starts is cut in two
starts_cut :
    (weight : ℕ × ℕ → ℕ) (job since upto end : ℕ) (rule : Rule) → since ≤ upto → upto ≤ end →
    weigh weight (entries_of job (starts rule since end)) ≡ weigh weight (entries_of job (starts rule since upto)) + weigh weight
    (entries_of job (starts rule upto end))
starts_cut weight job since upto end rule low high =
    ap (λ seconds. weigh weight (entries_of job seconds)) (passing-append (is_start rule) since upto end low high)
    ∙ ap (weigh weight) (map-append (λ second. (second, job)) (starts rule since upto) (starts rule upto end))
    ∙ weigh-append weight (entries_of job (starts rule since upto)) (entries_of job (starts rule upto end))

-- rows of no jobs weigh nothing
weigh-no_jobs :
    (weight : ℕ × ℕ → ℕ) (job : ℕ) (span : Bounds) (seconds : List ℕ) →
    weigh weight (flat_map (windows_from job [] span) seconds) ≡ 0
weigh-no_jobs weight job span [] = refl
weigh-no_jobs weight job span (n ∷ seconds) = weigh-no_jobs weight job span seconds

one_row :
    (weight : ℕ × ℕ → ℕ) (is : Bool) (n job : ℕ) (row rest : List (ℕ × ℕ)) (passed : List ℕ) (others : List (ℕ × ℕ)) →
    weigh weight rest ≡ weigh weight (entries_of job passed) + weigh weight others →
    weigh weight (cond is ((n, job) ∷ row) row ++ rest) ≡ weigh weight (entries_of job (cond is (n ∷ passed) passed)) + weigh weight
    (row ++ others)
one_row weight true n job row rest passed others later = omega (arith, weigh-append weight row rest, weigh-append weight row others, later)
one_row weight false n job row rest passed others later = omega (arith, weigh-append weight row rest, weigh-append weight row others, later)

-- rows weigh what the first job's starts and the rows of the others weigh
weigh-rows :
    (weight : ℕ × ℕ → ℕ) (job : ℕ) (timing : Timing) (timings : List Timing) (span : Bounds) (seconds : List ℕ) →
    weigh weight (flat_map (windows_from job (timing ∷ timings) span) seconds) ≡ weigh weight
    (entries_of job (filter (is_planned timing span) seconds)) + weigh weight
    (flat_map (windows_from (job + 1) timings span) seconds)
weigh-rows weight job timing timings span [] = refl
weigh-rows weight job timing timings span (n ∷ seconds) = grind (arith, nat_tests, one_row, is_planned, weigh-rows weight job timing timings span seconds)

-- the seconds at which windows may open that meet the span
abbrev pub seconds_of : Bounds → List ℕ
seconds_of span = range_with_len 0 span.upto

-- the starts of the first job that belong to a span, and the rows of the others
weigh-span :
    (weight : ℕ × ℕ → ℕ) (job : ℕ) (timing : Timing) (timings : List Timing) (span : Bounds) → span.since ≤ span.upto →
    weigh weight (flat_map (windows_from job (timing ∷ timings) span) (seconds_of span)) ≡ weigh weight
    (entries_of job (starts timing.rule (first_second span timing.delay) span.upto)) + weigh weight
    (flat_map (windows_from (job + 1) timings span) (seconds_of span))
weigh-span weight job timing timings span ordered = grind (arith, nat_tests, weigh-rows, planned_starts)

-- each of the jobs is covered to a second from its first one to the end of the span
abbrev pub AreWithin : Bounds → List Timing → List ℕ → Type 0
AreWithin span [] covered = Unit {0}
AreWithin span (timing ∷ timings) [] = Unit {0}
AreWithin span (timing ∷ timings) (upto ∷ covered) =
    (first_second span timing.delay ≤ upto) × (upto ≤ span.upto) × AreWithin span timings covered

pub AreWithin-each :
    (span : Bounds) (timings : List Timing) (covered : List ℕ) →
    ((job : ℕ) (timing : Timing) → slice_get timings job ≡ Some timing → first_second span timing.delay ≤ slice_index covered job) →
    ((job : ℕ) → job < length covered → slice_index covered job ≤ span.upto) → AreWithin span timings covered
AreWithin-each span [] covered low high = tt
AreWithin-each span (timing ∷ timings) [] low high = tt
AreWithin-each span (timing ∷ timings) (upto ∷ covered) low high = (
  low 0 timing refl,
  high 0 (omega arith),
  AreWithin-each span timings covered (λ job own is. low (suc job) own is) (λ job lt. high (suc job) (omega arith)),
)

-- what is held weighs no more than the agenda
pub held-le :
    (weight : ℕ × ℕ → ℕ) (job : ℕ) (span : Bounds) (timings : List Timing) (covered : List ℕ) → span.since ≤ span.upto →
    AreWithin span timings covered →
    weigh weight (held_from job span timings covered) ≤ weigh weight (flat_map (windows_from job timings span) (seconds_of span))
held-le weight job span [] covered ordered within = omega arith
held-le weight job span (timing ∷ timings) [] ordered within = omega arith
held-le weight job span (timing ∷ timings) (upto ∷ covered) ordered (low, high, within) =
    let others = held-le weight (job + 1) span timings covered ordered within in
    let all = weigh-span weight job timing timings span ordered in
    let first = first_second span timing.delay in
    let parts = starts_cut weight job first upto span.upto timing.rule low high in
    omega (
      arith,
      others,
      all,
      parts,
      weigh-append weight (entries_of job (starts timing.rule first upto)) (held_from (job + 1) span timings covered),
    )

-- if each job is covered to the end, everything is held
pub held-complete :
    (weight : ℕ × ℕ → ℕ) (job : ℕ) (span : Bounds) (timings : List Timing) (covered : List ℕ) → span.since ≤ span.upto →
    length covered ≡ length timings → list_all (λ upto. upto == span.upto) covered ≡ true →
    weigh weight (held_from job span timings covered) ≡ weigh weight (flat_map (windows_from job timings span) (seconds_of span))
held-complete weight job span [] covered ordered len all = sym (weigh-no_jobs weight job span (seconds_of span))
held-complete weight job span (timing ∷ timings) [] ordered len all = absurd (omega arith)
held-complete weight job span (timing ∷ timings) (upto ∷ covered) ordered len all =
    let both = and_parts (upto == span.upto) (list_all (λ upto. upto == span.upto) covered) all in
    let here : upto ≡ span.upto = eqb-true upto span.upto both.0 in
    let others = held-complete weight (job + 1) span timings covered ordered (omega arith) both.1 in
    let rows = weigh-span weight job timing timings span ordered in
    let first = first_second span timing.delay in
    let own : weigh weight (entries_of job (starts timing.rule first upto)) ≡ weigh weight
    (entries_of job (starts timing.rule first span.upto)) = ap (λ n. weigh weight (entries_of job (starts timing.rule first n))) here in
    omega (
      arith,
      others,
      rows,
      own,
      weigh-append weight (entries_of job (starts timing.rule first upto)) (held_from (job + 1) span timings covered),
    )

-- a piece that starts where its job is covered to adds its starts
pub held-more :
    (weight : ℕ × ℕ → ℕ) (number place : ℕ) (span : Bounds) (timings : List Timing) (covered : List ℕ) (timing : Timing) (end : ℕ) →
    slice_get timings place ≡ Some timing → place < length covered →
    first_second span timing.delay ≤ slice_index covered place → slice_index covered place ≤ end →
    weigh weight (held_from number span timings (slice_set covered place end)) ≡ weigh weight
    (held_from number span timings covered) + weigh weight
    (entries_of (number + place) (starts timing.rule (slice_index covered place) end))
held-more weight number place span [] covered timing end is there low high = cc
held-more weight number place span (own ∷ timings) [] timing end is there low high = absurd (omega arith)
held-more weight number zero span (own ∷ timings) (upto ∷ covered) timing end is there low high =
    let same : timing ≡ own = cc in
    let here : number + 0 ≡ number = omega arith in
    let from : first_second span own.delay ≤ upto = subst (λ (t : Timing). first_second span t.delay ≤ upto) same low in
    let first = first_second span own.delay in
    let parts = starts_cut weight number first upto end own.rule from high in
    rw (same, here) (omega (
      arith,
      parts,
      weigh-append weight (entries_of number (starts own.rule first end)) (held_from (number + 1) span timings covered),
      weigh-append weight (entries_of number (starts own.rule first upto)) (held_from (number + 1) span timings covered),
    ))
held-more weight number (suc place) span (own ∷ timings) (upto ∷ covered) timing end is there low high =
    let later = held-more weight (number + 1) place span timings covered timing end is (omega arith) low high in
    let here : number + 1 + place ≡ number + suc place = omega arith in
    let others = rw here at later in
    let first = first_second span own.delay in
    omega (
      arith,
      others,
      weigh-append weight (entries_of number (starts own.rule first upto))
          (held_from (number + 1) span timings (slice_set covered place end)),
      weigh-append weight (entries_of number (starts own.rule first upto)) (held_from (number + 1) span timings covered),
    )
