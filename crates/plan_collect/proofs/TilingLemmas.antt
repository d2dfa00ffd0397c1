-- What a planner sends fits, message by message: for `accepts_every_merging`, whose clause is `accepts`. `ready_parts`
-- goes by induction over the jobs, with `IsAt` for how far the planner is, and `ready_pieces` by the seconds of a job
-- that remain. `cut_ready` cuts that after the limit, and `merged` of MergingLemmas.antt ends it.
use Rattle.std.proofs.Common.{◌≡◌, ℕ, zero, suc, ◌+◌, ◌-◌, ◌%◌, ◌<◌, ◌≤◌, ◌⊎◌, true, false, nat_lt, nat_le, List, [], ◌∷◌, ◌++◌, length, map, get_or, Some, inl, inr, refl, ap, sym, ◌∙◌, subst, arith, append_assoc}
use Rattle.std.specs.Prelude.{slice_get, slice_index}
use Rattle.std.proofs.Math.ListN.{set}
use Rattle.std.proofs.lemmas.Bool.{cases_lt, cases_eq, and_from, and_parts, eq-eqb, lt-ltb, le-ltb, le-leb, leb-true}
use Rattle.std.proofs.lemmas.List.{length-map, length-set, get_or-set_same, get_or-set_other, length-replicate, get_or-replicate}
use Rattle.std.proofs.lemmas.Option.{unwrap_or-slice_get}
use Rattle.plan_match.specs.Equal.{same_rule-Decides}
use Rattle.plan_next.specs.Piece.{piece_of, piece_end}
use Rattle.plan_collect.specs.declared.note.Note.{Note}
use Rattle.plan_collect.specs.declared.note.Note.TheVariants as note
use Rattle.plan_next.specs.Span.{Bounds}
use Rattle.plan_collect.specs.Limits.{most_planners, most_starts}
use Rattle.plan_collect.specs.Collecting.{Collected, begun, has_ended, after}
use Rattle.plan_collect.specs.Tiling.{pieces_within, pieces, parts_from, tiling, starts_in, cut_after, sent_by}
use Rattle.plan_collect.specs.TilingLaws.{set_again, EndsPiece, piece_ends, piece_of_nothing, pieces_last, pieces_more, pieces_one, parts_none, parts_own, parts_other, cut_here, cut_later, cut_none}
use Rattle.plan_collect.specs.Merging.{AcceptsMergings}
use Rattle.plan_collect.specs.Windows.{Timing, first_second}
use Rattle.plan_collect.proofs.HoldsLemmas.{nothing_held}
use Rattle.plan_collect.proofs.MergingLemmas.{Fits, Ready, Over, Sends, IsSound, AllOf, merged}
use Rattle.plan_collect.proofs.WindowsLemmas.{first-since, first_of}
use Rattle.std.proofs.lemmas.Bool.Decides.{nat_tests}

-- the planner is at this job, which has this timing
record IsAtJob (k job : ℕ) (timing : Timing) (c : Collected) : Type 0 where
  pub planner : k < length c.ended
  pub own : job % length c.ended ≡ k
  pub known : slice_get c.timings job ≡ Some timing
  pub early : has_ended c k ≡ false
  pub inside : job < length c.covered

abbrev covering : Collected → (job upto : ℕ) → Collected
covering c job upto = record c { covered = set c.covered job upto }

fits_next :
    (k job : ℕ) (timing : Timing) (c : Collected) (from upto : ℕ) → IsAtJob k job timing c → slice_index c.covered job ≡ from →
    from ≤ upto → upto ≤ c.span.upto → Fits k c (note.Part job (record { rule = timing.rule; since = from; upto = upto }))
fits_next k job timing c from upto here reached low high = record {
  own = and_from _ _ (lt-ltb _ _ here.planner)
      (and_from _ _ (eq-eqb _ _ here.own) (rw here.known ((same_rule-Decides timing.rule timing.rule).1 refl)));
  early = here.early;
  next = and_from _ _ (eq-eqb _ _ reached) (le-leb _ _ high);
  ordered = low;
}

at_job_covering : (k job : ℕ) (timing : Timing) (c : Collected) (upto : ℕ) → IsAtJob k job timing c →
    IsAtJob k job timing (covering c job upto)
at_job_covering k job timing c upto here = grind (arith, nat_tests, length-set)

-- the pieces of a job fit, one after another, and cover it
ready_pieces :
    (seconds k job : ℕ) (timing : Timing) (c : Collected) (from : ℕ) (rest : List Note) → IsAtJob k job timing c →
    slice_index c.covered job ≡ from → from ≤ c.span.upto → c.span.upto - from ≤ seconds →
    Ready k (covering c job c.span.upto) rest →
    Ready k c (map (note.Part job) (pieces_within seconds timing.rule from c.span.upto) ++ rest)
ready_pieces zero k job timing c from rest here reached part few ready = grind (arith, nat_tests, piece_of_nothing, Ready, fits_next, pieces_one)
ready_pieces (suc seconds) k job timing c from rest here reached part few ready =
    let rule = timing.rule in
    let end = piece_end rule from c.span.upto most_starts in
    let ends : EndsPiece from c.span.upto end = piece_ends rule from c.span.upto most_starts (omega arith) part in
    let fits : Fits k c (note.Part job (piece_of rule from c.span.upto most_starts)) =
    fits_next k job timing c from end here reached ends.from ends.to in
    elim (cases_lt end c.span.upto) [
      | inl more ↦ (
          let go_on : nat_lt end c.span.upto ≡ true = lt-ltb _ _ more in
          let now : slice_index (covering c job end).covered job ≡ end = get_or-set_same c.covered job end 0 here.inside in
          let moves = ends.moves in
          let again : Ready k (covering (covering c job end) job c.span.upto) rest = subst
          (λ covered. Ready k (record c { covered = covered }) rest) (sym (set_again c.covered job end c.span.upto)) ready in
          let all : Ready k c (note.Part job
          (piece_of rule from c.span.upto most_starts) ∷ (map (note.Part job) (pieces_within seconds rule end c.span.upto) ++ rest)) = (
            fits,
            ready_pieces seconds k job timing (covering c job end) end rest (at_job_covering k job timing c end here) now ends.to
                (omega arith) again,
          ) in
          subst (λ ps. Ready k c (map (note.Part job) ps ++ rest)) (sym (pieces_more seconds rule from c.span.upto go_on)) all)
      | inr no_more ↦ (
          let stop : nat_lt end c.span.upto ≡ false = le-ltb _ _ no_more in
          let to = ends.to in
          let is : c.span.upto ≡ end = omega arith in
          let all : Ready k c (note.Part job (piece_of rule from c.span.upto most_starts) ∷ rest) =
          (fits, subst (λ upto. Ready k (covering c job upto) rest) is ready) in
          subst (λ ps. Ready k c (map (note.Part job) ps ++ rest)) (sym (pieces_last seconds rule from c.span.upto stop)) all)
    ]

-- the planner's jobs before this one are covered, and nothing has arrived of those from it on, which have these timings
record IsAt (k job : ℕ) (timings : List Timing) (c : Collected) : Type 0 where
  pub planner : k < length c.ended
  pub early : has_ended c k ≡ false
  pub known : (i : ℕ) (timing : Timing) → slice_get timings i ≡ Some timing → slice_get c.timings (job + i) ≡ Some timing
  pub jobs : length c.covered ≡ job + length timings
  pub part : c.span.since ≤ c.span.upto
  pub coming : (i : ℕ) (timing : Timing) → slice_get timings i ≡ Some timing →
      slice_index c.covered (job + i) ≡ first_second c.span timing.delay
  pub done : (j : ℕ) → j < job → j % length c.ended ≡ k → slice_index c.covered j ≡ c.span.upto

-- the last message fits if all jobs are covered
ready_last : (k job : ℕ) (c : Collected) → IsAt k job [] c → Ready k c (note.Last ∷ [])
ready_last k job c here = grind (arith, nat_tests, length-set, Fits, lt-ltb, unwrap_or-slice_get, set, get_or-set_same)

-- after a job of the planner, the next
at_next_own :
    (k job : ℕ) (timing : Timing) (timings : List Timing) (c : Collected) → IsAt k job (timing ∷ timings) c →
    IsAt k (job + 1) timings (covering c job c.span.upto)
at_next_own k job timing timings c here =
    let size = length-set c.covered job c.span.upto in
    let jobs = here.jobs in
    record {
      planner = here.planner;
      early = here.early;
      known = λ i t is. (let place : job + 1 + i ≡ job + suc i = omega arith in rw place (here.known (suc i) t is));
      jobs = omega arith;
      part = here.part;
      coming = λ i t is. (
          let place : job + 1 + i ≡ job + suc i = omega arith in
          rw place (get_or-set_other c.covered job (job + suc i) c.span.upto 0 (omega arith) ∙ here.coming (suc i) t is));
      done = λ j low own. elim (cases_eq j job) [
        | inl is ↦ ap (λ place. get_or (set c.covered job c.span.upto) place 0) is ∙ get_or-set_same c.covered job c.span.upto 0
            (omega arith)
        | inr not ↦ get_or-set_other c.covered job j c.span.upto 0 not ∙ here.done j (omega arith) own
      ];
    }

-- after a job of another planner, the next
at_next_other :
    (k job : ℕ) (timing : Timing) (timings : List Timing) (c : Collected) → (job % length c.ended ≡ k → ⊥) →
    IsAt k job (timing ∷ timings) c → IsAt k (job + 1) timings c
at_next_other k job timing timings c other here =
    let jobs = here.jobs in
    record {
      planner = here.planner;
      early = here.early;
      known = λ i t is. (let place : job + 1 + i ≡ job + suc i = omega arith in rw place (here.known (suc i) t is));
      jobs = omega arith;
      part = here.part;
      coming = λ i t is. (let place : job + 1 + i ≡ job + suc i = omega arith in rw place (here.coming (suc i) t is));
      done = λ j low own. elim (cases_eq j job) [
        | inl is ↦ absurd (other (ap (λ place. place % length c.ended) (sym is) ∙ own))
        | inr not ↦ here.done j (omega arith) own
      ];
    }

-- what remains of a tiling from a job on fits
ready_parts :
    (timings : List Timing) (k job : ℕ) (c : Collected) → IsAt k job timings c →
    Ready k c (parts_from job k (length c.ended) timings c.span ++ note.Last ∷ [])
ready_parts [] k job c here = subst (λ notes. Ready k c (notes ++ note.Last ∷ [])) (sym (parts_none job k (length c.ended) c.span))
    (ready_last k job c here)
ready_parts (timing ∷ timings) k job c here =
    let later = parts_from (job + 1) k (length c.ended) timings c.span in
    let jobs = here.jobs in
    elim (cases_eq (job % length c.ended) k) [
      | inl own ↦ (
          let inside : job < length c.covered = omega arith in
          let zeroth : job + 0 ≡ job = omega arith in
          let known : slice_get c.timings job ≡ Some timing = rw zeroth at (here.known 0 timing refl) in
          let first = first_second c.span timing.delay in
          let coming : slice_index c.covered job ≡ first = rw zeroth at (here.coming 0 timing refl) in
          let low : first ≤ c.span.since = first-since c.span timing.delay in
          let part = here.part in
          let at_job : IsAtJob k job timing c =
          record { planner = here.planner; own = own; known = known; early = here.early; inside = inside } in
          let rest : Ready k (covering c job c.span.upto) (later ++ note.Last ∷ []) = ready_parts timings k (job + 1)
          (covering c job c.span.upto) (at_next_own k job timing timings c here) in
          let mine = map (note.Part job) (pieces timing.rule first c.span.upto) in
          let all : Ready k c (mine ++ (later ++ note.Last ∷ [])) = ready_pieces
          (c.span.upto - first) k job timing c first (later ++ note.Last ∷ []) at_job coming (omega arith) (omega arith) rest in
          subst (λ notes. Ready k c (notes ++ note.Last ∷ [])) (sym (parts_own job k (length c.ended) timing timings c.span own))
          (subst (λ notes. Ready k c notes) (sym (append_assoc mine later (note.Last ∷ []))) all))
      | inr other ↦ subst (λ notes. Ready k c (notes ++ note.Last ∷ []))
          (sym (parts_other job k (length c.ended) timing timings c.span other))
          (ready_parts timings k (job + 1) c (at_next_other k job timing timings c other here))
    ]

-- ---- a tiling that is cut

-- messages that fit to the end, when they are cut after the limit, fit or bring more starts than the limit
cut_ready :
    (limit count k : ℕ) (notes : List Note) (c : Collected) → Ready k c notes →
    Ready k c (cut_after limit count notes) ⊎ Over limit count k c (cut_after limit count notes)
cut_ready limit count k [] c done = rw (cut_none limit count) (inl done)
cut_ready limit count k (first ∷ notes) c (fits, rest) =
    elim (cases_lt limit (count + starts_in first)) [
      | inl more ↦ inr (subst (λ sent. Over limit count k c sent) (sym (cut_here limit count first notes more)) (fits, more))
      | inr few ↦ (elim (cut_ready limit (count + starts_in first) k notes (after c k first) rest) [
        | inl ready ↦ inl (subst (λ sent. Ready k c sent) (sym (cut_later limit count first notes few)) (fits, ready))
        | inr over ↦ inr (subst (λ sent. Over limit count k c sent) (sym (cut_later limit count first notes few)) (fits, over))
      ])
    ]

-- ---- a new collector

at_begin :
    (k planners limit : ℕ) (timings : List Timing) (span : Bounds) → k < planners → span.since ≤ span.upto →
    IsAt k 0 timings (begun timings span planners limit)
at_begin k planners limit timings span few part = grind (arith, nat_tests, length-replicate, unwrap_or-slice_get, get_or-replicate, length-map, first_of)

sends_at_begin :
    (k planners limit : ℕ) (timings : List Timing) (span : Bounds) → k < planners → span.since ≤ span.upto →
    Sends k (begun timings span planners limit) (sent_by k planners limit timings span)
sends_at_begin k planners limit timings span few part =
    let c = begun timings span planners limit in
    let ready : Ready k c (parts_from 0 k (length c.ended) timings span ++ note.Last ∷ []) = ready_parts timings k 0 c
    (at_begin k planners limit timings span few part) in
    let whole : Ready k c (tiling k planners timings span) = subst (λ n. Ready k c (parts_from 0 k n timings span ++ note.Last ∷ []))
    (length-replicate planners false) ready in
    elim (cut_ready limit 0 k (tiling k planners timings span) c whole) [
      | inl all ↦ inl all
      | inr over ↦ inr (0, (omega arith, over))
    ]

sound_at_begin : (planners limit : ℕ) (timings : List Timing) (span : Bounds) → IsSound (begun timings span planners limit)
sound_at_begin planners limit timings span = grind (arith, nat_tests, length-map, first_of, nothing_held)

all_of_places :
    (planners : ℕ) (history : List (ℕ × Note)) →
    ((place planner : ℕ) (note : Note) → slice_get history place ≡ Some (planner, note) → planner < planners) →
    AllOf planners history
all_of_places planners [] known = tt
all_of_places planners (sent ∷ history) known =
    (known 0 sent.0 sent.1 refl, all_of_places planners history (λ place planner note is. known (suc place) planner note is))

-- every merging is accepted to its end, or the answer is TooMany
pub accepts : AcceptsMergings
accepts planners limit timings span history size part merging =
    let c = begun timings span planners limit in
    let wide : length c.ended ≡ planners = length-replicate planners false in
    let some : 1 ≤ planners = leb-true 1 planners (and_parts (nat_le 1 planners) (nat_le planners most_planners) size).0 in
    merged history c (sound_at_begin planners limit timings span) (omega arith)
    (subst (λ n. AllOf n history) (sym wide) (all_of_places planners history merging.known))
    (λ k few. (let among : k < planners = omega arith in
    subst (λ notes. Sends k c notes) (sym (merging.each k among)) (sends_at_begin k planners limit timings span among part)))
