-- What a collector holds when it is made, accepts a piece and finishes: for the invariant of the type, `Holds`, in
-- `Collector::new` and `keep`, and for `has_room` and `finish`. With any weights, what is held with a piece is what was
-- held and the piece's starts (`with_piece`), within the agenda. So the agenda exceeds the limit if a piece doesn't fit
-- in it.
use Rattle.std.proofs.Common.{◌≡◌, ℕ, ◌+◌, ◌-◌, ◌<◌, ◌≤◌, Bool, true, false, ◌==◌, List, [], ◌∷◌, ◌++◌, length, Option, None, Some, inl, inr, refl, ap, sym, subst, ◌∙◌, arith, length-append, length-set, get_or-set_same, get_or-set_other}
use Rattle.std.specs.Prelude.{slice_get, slice_index, slice_set, replicate, nat_le, IsPermutation}
use Rattle.std.specs.List.{list_all}
use Rattle.std.specs.List.Sorted.{IsSorted}
use Rattle.std.specs.Ordering.{nat_cmp, ordering_then}
use Rattle.std.proofs.lemmas.Bool.{and_parts, eqb-true, le-leb, lt-leb, leb-true, leb-false, cases_lt, cases_eq, false≢true}
use Rattle.std.proofs.lemmas.List.{length-map, length-replicate}
use Rattle.std.proofs.lemmas.Option.{slice_get_within}
use Rattle.plan_match.specs.declared.rule.Rule.{Rule}
use Rattle.plan_match.specs.Equal.{same_rule-Decides}
use Rattle.plan_next.specs.Starts.{starts, passing}
use Rattle.plan_next.specs.Piece.{Part}
use Rattle.plan_collect.specs.declared.note.Note.TheVariants as note
use Rattle.plan_rules.specs.Limits.{most_jobs}
use Rattle.plan_next.specs.Span.{Bounds}
use Rattle.plan_collect.specs.Limits.{is_limit, is_size}
use Rattle.plan_collect.specs.Collecting.{Collected, firsts_of, held_from, held, is_rule_of, belongs, adjoins, has_room, is_complete, weigh, SameStarts, Holds}
use Rattle.plan_collect.specs.Windows.{Timing, first_second, agenda_of_windows}
use Rattle.plan_collect.proofs.StartsLemmas.{weigh-append, weigh-length, SameStarts-length, SameStarts-permutation, Ascends-sorted, Ascends-unique}
use Rattle.plan_collect.proofs.HeldLemmas.{entries_of, length-entries_of, AreWithin, AreWithin-each, held-le, held-complete, held-more}
use Rattle.plan_collect.proofs.AgendaOrder.{Ascends-agenda}
use Rattle.plan_collect.proofs.WindowsLemmas.{first_of, first-since, timing_at}
use Rattle.std.proofs.lemmas.Bool.Decides.{nat_tests}
use Rattle.std.proofs.lemmas.Grind.{common_steps}

pub no_starts : (rule : Rule) (a b : ℕ) → b ≤ a → starts rule a b ≡ []
unfolding passing
no_starts rule a b none = grind (arith, nat_tests, common_steps)

pub nothing_held : (job : ℕ) (span : Bounds) (timings : List Timing) → held_from job span timings (firsts_of span timings) ≡ []
nothing_held job span [] = refl
nothing_held job span (timing ∷ timings) = grind (arith, nat_tests, no_starts, nothing_held (job + 1) span timings)

-- a new collector holds nothing
pub Holds-begun :
    (timings : List Timing) (span : Bounds) (limit planners : ℕ) (covered : List ℕ) (ended : List Bool) (entries : List (ℕ × ℕ)) →
    covered ≡ firsts_of span timings → ended ≡ replicate planners false → is_size planners ≡ true → is_limit limit ≡ true →
    span.since ≤ span.upto → length timings ≤ most_jobs → entries ≡ [] →
    Holds (record { timings = timings; span = span; limit = limit; covered = covered; ended = ended }) entries
Holds-begun timings span limit planners covered ended entries firsts none_ended size limited ordered few none =
    let long : length covered ≡ length timings = ap length firsts ∙ length-map timings _ in
    let senders : length ended ≡ planners = ap length none_ended ∙ length-replicate planners false in
    let each : (job : ℕ) (timing : Timing) → slice_get timings job ≡ Some timing →
    slice_index covered job ≡ first_second span timing.delay =
    λ job timing is. ap (λ xs. slice_index xs job) firsts ∙ first_of span timings job timing is in
    record {
      same = λ weight. ap (weigh weight) (none ∙ sym (ap (held_from 0 span timings) firsts ∙ nothing_held 0 span timings));
      few = (let empty : length entries ≡ 0 = ap length none in omega arith);
      limit = limited;
      size = ap is_size senders ∙ size;
      few_jobs = few;
      jobs = long;
      since = λ job timing is. (let first = each job timing is in omega arith);
      upto = λ job lt. (
          let own = timing_at timings job (omega arith) in
          let first = each job own.timing own.there in
          let low = first-since span own.timing.delay in
          omega arith);
      ordered = ordered;
    }

-- the job of a piece that belongs has its rule
pub record HasRule (own : Option Timing) (rule : Rule) : Type 0 where
  pub timing : Timing
  pub there : own ≡ Some timing
  pub same : timing.rule ≡ rule

pub rule_of_some : (own : Option Timing) (rule : Rule) → is_rule_of own rule ≡ true → HasRule own rule
rule_of_some None rule h = absurd (false≢true h)
rule_of_some (Some timing) rule h = record { timing = timing; there = refl; same = (same_rule-Decides timing.rule rule).0 h }

-- the job of a piece that belongs is covered to some second
pub job_covered :
    (view c : Collected) (entries : List (ℕ × ℕ)) (job : ℕ) (rule : Rule) → view ≡ c → Holds view entries →
    is_rule_of (slice_get c.timings job) rule ≡ true → job < length view.covered
job_covered view c entries job rule e holds is = grind (arith, nat_tests, rule_of_some, slice_get_within)

-- what a piece that adjoins adds
record Fits (c : Collected) (job : ℕ) (piece : Part) : Type 0 where
  timing : Timing
  known : slice_get c.timings job ≡ Some timing
  own : timing.rule ≡ piece.rule
  there : job < length c.covered
  begins : slice_index c.covered job ≡ piece.since
  ends : piece.upto ≤ c.span.upto

fits :
    (c : Collected) (entries : List (ℕ × ℕ)) (job : ℕ) (piece : Part) → Holds c entries →
    is_rule_of (slice_get c.timings job) piece.rule ≡ true → adjoins c (note.Part job piece) ≡ true → Fits c job piece
fits c entries job piece holds belongs adjoins =
    let has = rule_of_some (slice_get c.timings job) piece.rule belongs in
    let there : job < length c.timings = slice_get_within c.timings job has.timing has.there in
    let both = and_parts (slice_index c.covered job == piece.since) (nat_le piece.upto c.span.upto) adjoins in
    let as_many = holds.jobs in
    record {
      timing = has.timing;
      known = has.there;
      own = has.same;
      there = omega arith;
      begins = eqb-true (slice_index c.covered job) piece.since both.0;
      ends = leb-true piece.upto c.span.upto both.1;
    }

-- what is held with a piece, with any weights
with_piece :
    (weight : ℕ × ℕ → ℕ) (c : Collected) (entries : List (ℕ × ℕ)) (job : ℕ) (piece : Part) → Holds c entries → Fits c job piece →
    piece.since ≤ piece.upto →
    weigh weight (held_from 0 c.span c.timings (slice_set c.covered job piece.upto)) ≡ weigh weight (held c) + weigh weight
    (entries_of job (starts piece.rule piece.since piece.upto))
with_piece weight c entries job piece holds fit forward = grind (arith, nat_tests, common_steps, held-more)

-- a collector holds what it held and the starts of an accepted piece
pub Holds-more :
    (c : Collected) (entries new : List (ℕ × ℕ)) (job : ℕ) (piece : Part) → Holds c entries →
    is_rule_of (slice_get c.timings job) piece.rule ≡ true → adjoins c (note.Part job piece) ≡ true →
    has_room c (note.Part job piece) ≡ true → piece.since ≤ piece.upto →
    new ≡ entries ++ entries_of job (starts piece.rule piece.since piece.upto) →
    Holds (record c { covered = slice_set c.covered job piece.upto }) new
Holds-more c entries new job piece holds belongs adjoins room forward is = grind (arith, nat_tests, common_steps, fits, weigh-append, entries_of, with_piece, leb-true, SameStarts-length, length-append, length-entries_of, cases_eq)

-- no more is held than the agenda has
held_within :
    (c : Collected) → c.span.since ≤ c.span.upto → AreWithin c.span c.timings c.covered →
    length (held c) ≤ length (agenda_of_windows c.timings c.span)
unfolding agenda_of_windows
held_within c ordered within =
    let le = held-le (λ _. 1) 0 c.span c.timings c.covered ordered within in
    omega (arith, le, weigh-length (held c), weigh-length (agenda_of_windows c.timings c.span))

-- if a piece doesn't fit in the limit, the agenda has more entries than the limit
pub too_many :
    (c : Collected) (entries : List (ℕ × ℕ)) (job : ℕ) (piece : Part) → Holds c entries →
    is_rule_of (slice_get c.timings job) piece.rule ≡ true → adjoins c (note.Part job piece) ≡ true →
    has_room c (note.Part job piece) ≡ false → c.limit < length (agenda_of_windows c.timings c.span)
too_many c entries job piece holds belongs adjoins room =
    let fit = fits c entries job piece holds belongs adjoins in
    let added = starts piece.rule piece.since piece.upto in
    let more : c.limit < length (held c) + length added = leb-false (length (held c) + length added) c.limit room in
    let same : length entries ≡ length (held c) = SameStarts-length entries (held c) holds.same in
    let few = holds.few in
    elim (cases_lt piece.upto piece.since) [
      | inl backward ↦ (let none : length added ≡ 0 = ap length (no_starts piece.rule piece.since piece.upto (omega arith)) in
          absurd (omega arith))
      | inr forward ↦ (
          let after : Collected = record c { covered = slice_set c.covered job piece.upto } in
          let all = with_piece (λ _. 1) c entries job piece holds fit forward in
          let long : length (slice_set c.covered job piece.upto) ≡ length c.covered = length-set c.covered job piece.upto in
          let begins = fit.begins in
          let ends = fit.ends in
          let from : (k : ℕ) (timing : Timing) → slice_get c.timings k ≡ Some timing → first_second c.span timing.delay ≤ slice_index
          after.covered k = λ k timing known. elim (cases_eq k job) [
            | inl here ↦ (let is : slice_index after.covered k ≡ piece.upto = ap (slice_index after.covered) here ∙ get_or-set_same
                c.covered job piece.upto 0 fit.there in
                let was : slice_index c.covered k ≡ slice_index c.covered job = ap (slice_index c.covered) here in
                let low = holds.since k timing known in omega arith)
            | inr other ↦ (let is : slice_index after.covered k ≡ slice_index c.covered k =
                get_or-set_other c.covered job k piece.upto 0 other in let low = holds.since k timing known in omega arith)
          ] in
          let to : (k : ℕ) → k < length after.covered → slice_index after.covered k ≤ c.span.upto = λ k lt. elim (cases_eq k job) [
            | inl here ↦ (let is : slice_index after.covered k ≡ piece.upto = ap (slice_index after.covered) here ∙ get_or-set_same
                c.covered job piece.upto 0 fit.there in omega arith)
            | inr other ↦ (let is : slice_index after.covered k ≡ slice_index c.covered k =
                get_or-set_other c.covered job k piece.upto 0 other in let high = holds.upto k (omega arith) in omega arith)
          ] in
          let within = AreWithin-each c.span c.timings after.covered from to in
          let most = held_within after holds.ordered within in
          omega (
            arith,
            all,
            most,
            weigh-length (held after),
            weigh-length (held c),
            weigh-length
                (entries_of job added),
            length-entries_of job added,
          ))
    ]

-- what a complete collector holds, sorted, is the agenda
pub agenda_held :
    (c : Collected) (entries sorted : List (ℕ × ℕ)) → Holds c entries → is_complete c ≡ true → IsPermutation entries sorted →
    IsSorted (λ x y. ordering_then (nat_cmp x.0 y.0) (nat_cmp x.1 y.1)) sorted → sorted ≡ agenda_of_windows c.timings c.span
unfolding agenda_of_windows
agenda_held c entries sorted holds complete moved up =
    let both = and_parts (list_all (λ upto. upto == c.span.upto) c.covered) (list_all (λ has_sent_last. has_sent_last) c.ended) complete in
    let all : SameStarts entries (agenda_of_windows c.timings c.span) = λ weight. holds.same weight
    ∙ held-complete weight 0 c.span c.timings c.covered holds.ordered holds.jobs both.0 in
    Ascends-unique sorted (agenda_of_windows c.timings c.span)
    (SameStarts-permutation entries sorted (agenda_of_windows c.timings c.span) moved all) (Ascends-sorted sorted up)
    (Ascends-agenda c.timings c.span)

-- the same for the value that contracts see, which is that of the fields
pub Holds-kept :
    (view c : Collected) (entries new : List (ℕ × ℕ)) (job : ℕ) (piece : Part) (found : List ℕ) (end : ℕ) → view ≡ c →
    Holds view entries → is_rule_of (slice_get c.timings job) piece.rule ≡ true → adjoins c (note.Part job piece) ≡ true →
    has_room c (note.Part job piece) ≡ true → found ≡ starts piece.rule piece.since piece.upto → end ≡ piece.upto →
    piece.since ≤ end → new ≡ entries ++ entries_of job found →
    Holds (record view { covered = slice_set view.covered job end }) new
Holds-kept view c entries new job piece found end e holds belongs adjoining room all last forward is =
    let belongs' = subst (λ v. is_rule_of (slice_get v.timings job) piece.rule ≡ true) (sym e) belongs in
    let adjoining' = subst (λ v. adjoins v (note.Part job piece) ≡ true) (sym e) adjoining in
    let room' = subst (λ v. has_room v (note.Part job piece) ≡ true) (sym e) room in
    let kept = Holds-more view entries new job piece holds belongs' adjoining' room' (omega arith)
    (is ∙ ap (λ xs. entries ++ entries_of job xs) all) in
    subst (λ n. Holds (record view { covered = slice_set view.covered job n }) new) (sym last) kept

-- the test of the limit, by the entries that are kept
pub room_is :
    (view c : Collected) (entries : List (ℕ × ℕ)) (job : ℕ) (piece : Part) (found : List ℕ) (many : ℕ) → view ≡ c →
    Holds view entries → found ≡ starts piece.rule piece.since piece.upto → many ≡ length entries →
    nat_le (length found) (view.limit - many) ≡ has_room c (note.Part job piece)
room_is view c entries job piece found many e holds all is = grind (arith, nat_tests, SameStarts-length, cases_lt, lt-leb, le-leb)

-- if a piece that belongs and adjoins doesn't fit in the limit, the agenda has more entries than the limit
pub no_room :
    (view c : Collected) (entries : List (ℕ × ℕ)) (planner job : ℕ) (piece : Part) → view ≡ c → Holds view entries →
    belongs c planner (note.Part job piece) ≡ true → adjoins c (note.Part job piece) ≡ true →
    has_room c (note.Part job piece) ≡ false → c.limit < length (agenda_of_windows c.timings c.span)
no_room view c entries planner job piece e holds belonging adjoining room = grind (arith, nat_tests, and_parts, too_many)

-- what a complete collector has sorted is the agenda
pub agenda_sorted :
    (view c : Collected) (entries sorted : List (ℕ × ℕ)) (complete : Bool) → view ≡ c → Holds view entries →
    complete ≡ is_complete c → complete ≡ true → IsPermutation entries sorted →
    IsSorted (λ x y. ordering_then (nat_cmp x.0 y.0) (nat_cmp x.1 y.1)) sorted → sorted ≡ agenda_of_windows c.timings c.span
agenda_sorted view c entries sorted complete e holds is whole moved up =
    agenda_held c entries sorted (subst (λ v. Holds v entries) e holds) (sym is ∙ whole) moved up
