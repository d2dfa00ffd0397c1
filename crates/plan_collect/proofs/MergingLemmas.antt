-- A collector's answer doesn't depend on the order in which the messages of different planners arrive. For
-- `accepts_every_merging`, by TilingLemmas.antt. `merged` goes by induction over the arrivals: what each planner still
-- sends fits, or brings too many starts (`Sends`), and a message changes nothing for other planners (`alike_other`).
use Rattle.std.proofs.Common.{◌≡◌, ◌≢◌, ℕ, suc, ◌+◌, ◌%◌, ◌<◌, ◌≤◌, ◌⊎◌, Bool, true, false, ◌&&◌, ◌==◌, nat_lt, List, [], ◌∷◌, length, get_or, Some, None, Result, Err, inl, inr, refl, ap, ap₂, sym, ◌∙◌, subst, arith}
use Rattle.std.specs.Prelude.{slice_get, slice_index, if◌then◌else◌, unwrap_or, MatchResult}
use Rattle.std.specs.List.{list_all}
use Rattle.std.proofs.Math.ListN.{set}
use Rattle.std.proofs.lemmas.Bool.{cases_lt, cases_eq, cases_Bool, and_parts, and_from, eqb-true, ltb-true, leb-true, eq-eqb, ne_eqb}
use Rattle.std.proofs.lemmas.List.{length-set, get_or-set_same, get_or-set_other, get_or_past}
use Rattle.std.proofs.lemmas.Option.{unwrap_or-slice_get, slice_get_within}
use Rattle.plan_next.specs.Starts.{starts}
use Rattle.plan_collect.specs.declared.note.Note.{Note}
use Rattle.plan_collect.specs.declared.note.Note.TheVariants.{Part, Last}
use Rattle.plan_collect.specs.declared.collector.CollectFault.{CollectFault}
use Rattle.plan_collect.specs.declared.collector.CollectFault.TheVariants.{TooMany}
use Rattle.plan_collect.specs.Collecting.{Collected, held, belongs, is_rule_of, has_ended, adjoins, has_room, fault_of_note, after, is_complete}
use Rattle.plan_collect.specs.Tiling.{starts_in, notes_of}
use Rattle.plan_collect.specs.Merging.{answer_to}
use Rattle.plan_collect.specs.Windows.{Timing, first_second}
use Rattle.plan_collect.proofs.HoldsLemmas.{HasRule, rule_of_some}
use Rattle.plan_collect.proofs.HeldLemmas.{entries_of, held-more, length-entries_of}
use Rattle.plan_collect.proofs.StartsLemmas.{weigh-length}
use Rattle.std.proofs.lemmas.Bool.Decides.{nat_tests}
use Rattle.std.proofs.lemmas.Grind.{common_steps}

-- ---- messages that fit

-- a piece does not end before it starts
abbrev pub IsOrdered : Note → Type 0
IsOrdered (Part job piece) = piece.since ≤ piece.upto
IsOrdered Last = Unit {0}

-- the collector accepts the planner's message, unless there are too many starts
pub record Fits (k : ℕ) (c : Collected) (note : Note) : Type 0 where
  pub own : belongs c k note ≡ true
  pub early : has_ended c k ≡ false
  pub next : adjoins c note ≡ true
  pub ordered : IsOrdered note

-- the planner's jobs are covered, and its last message was accepted
pub record IsDone (k : ℕ) (c : Collected) : Type 0 where
  pub covered : (j : ℕ) → j < length c.covered → j % length c.ended ≡ k → slice_index c.covered j ≡ c.span.upto
  pub ended : has_ended c k ≡ true

-- the planner's messages fit one after another, and then the planner is done
abbrev pub Ready : ℕ → Collected → List Note → Type 0
Ready k c [] = IsDone k c
Ready k c (note ∷ notes) = Fits k c note × Ready k (after c k note) notes

-- the planner's messages fit one after another, and with `count` they bring more starts than the limit
abbrev pub Over : (limit count k : ℕ) → Collected → List Note → Type 0
Over limit count k c [] = limit < count
Over limit count k c (note ∷ notes) = Fits k c note × Over limit (count + starts_in note) k (after c k note) notes

-- ---- what decides about a planner's messages

-- two collectors are alike for a planner
record IsAlike (k : ℕ) (c d : Collected) : Type 0 where
  pub timings : c.timings ≡ d.timings
  pub span : c.span ≡ d.span
  pub size : length c.ended ≡ length d.ended
  pub jobs : length c.covered ≡ length d.covered
  pub covered : (j : ℕ) → j % length c.ended ≡ k → slice_index c.covered j ≡ slice_index d.covered j
  pub ended : has_ended c k ≡ has_ended d k

-- the planner's number is that of the job, modulo the number of planners
own_job :
    (c : Collected) (k job : ℕ) (fits : Bool) →
    (nat_lt k (length c.ended) && (job % length c.ended == k && fits)) ≡ true → job % length c.ended ≡ k
own_job c k job fits is = eqb-true _ _ (and_parts _ _ (and_parts _ _ is).1).0

alike_fits : (k : ℕ) (c d : Collected) (note : Note) → IsAlike k c d → Fits k c note → Fits k d note
alike_fits k c d (Part job piece) alike fits = grind (arith, nat_tests, own_job)
alike_fits k c d Last alike fits = grind (arith, nat_tests, common_steps)

-- the same write to two lists that are alike at a place
set_alike :
    (xs ys : List ℕ) (i j v : ℕ) → length xs ≡ length ys → get_or xs j 0 ≡ get_or ys j 0 →
    get_or (set xs i v) j 0 ≡ get_or (set ys i v) j 0
set_alike xs ys i j v size same = grind (arith, nat_tests, cases_eq, cases_lt, set, get_or-set_same, length-set, get_or_past, get_or-set_other)

-- after its last message, a planner has ended
ends_now : (k : ℕ) (ended : List Bool) → k < length ended → unwrap_or (slice_get (set ended k true) k) false ≡ true
ends_now k ended inside = unwrap_or-slice_get (set ended k true) k false ∙ get_or-set_same ended k true false inside

alike_after : (k : ℕ) (c d : Collected) (note : Note) → IsAlike k c d → Fits k c note → IsAlike k (after c k note) (after d k note)
alike_after k c d (Part job piece) alike fits = grind (arith, nat_tests, length-set, set_alike)
alike_after k c d Last alike fits = grind (arith, nat_tests, ltb-true, length-set, ends_now)

-- a message changes nothing for another planner
alike_other : (k other : ℕ) (c : Collected) (note : Note) → other ≢ k → Fits k c note → IsAlike other c (after c k note)
alike_other k other c (Part job piece) not fits = grind (arith, nat_tests, own_job, length-set, get_or-set_other)
alike_other k other c Last not fits = grind (arith, nat_tests, length-set, unwrap_or-slice_get, get_or-set_other, set)

alike_ready : (k : ℕ) (notes : List Note) (c d : Collected) → IsAlike k c d → Ready k c notes → Ready k d notes
alike_ready k [] c d alike done = grind (arith, nat_tests, common_steps)
alike_ready k (note ∷ notes) c d alike (fits, rest) =
    (alike_fits k c d note alike fits, alike_ready k notes (after c k note) (after d k note) (alike_after k c d note alike fits) rest)

alike_over :
    (limit count k : ℕ) (notes : List Note) (c d : Collected) → IsAlike k c d → Over limit count k c notes →
    Over limit count k d notes
alike_over limit count k [] c d alike more = more
alike_over limit count k (note ∷ notes) c d alike (fits, rest) = (
  alike_fits k c d note alike fits,
  alike_over limit (count + starts_in note) k notes (after c k note) (after d k note)
      (alike_after k c d note alike fits) rest,
)

-- ---- what is held

-- the parts of a collector fit together
pub record IsSound (c : Collected) : Type 0 where
  pub jobs : length c.covered ≡ length c.timings
  pub since : (j : ℕ) (timing : Timing) → slice_get c.timings j ≡ Some timing → first_second c.span timing.delay ≤ slice_index c.covered j
  pub few : length (held c) ≤ c.limit

rule_is : (k size job : ℕ) (known : Bool) → (nat_lt k size && (job % size == k && known)) ≡ true → known ≡ true
rule_is k size job known is = (and_parts (job % size == k) known (and_parts (nat_lt k size) (job % size == k && known) is).1).1

held_after :
    (k : ℕ) (c : Collected) (note : Note) → IsSound c → Fits k c note →
    length (held (after c k note)) ≡ length (held c) + starts_in note
held_after k c (Part job piece) sound fits =
    let has : HasRule (slice_get c.timings job) piece.rule = rule_of_some (slice_get c.timings job) piece.rule
    (rule_is k (length c.ended) job (is_rule_of (slice_get c.timings job) piece.rule) fits.own) in
    let rule = has.timing.rule in
    let jobs = sound.jobs in
    let among : job < length c.timings = slice_get_within c.timings job has.timing has.there in
    let inside : job < length c.covered = omega arith in
    let reached : slice_index c.covered job ≡ piece.since = eqb-true _ _ (and_parts _ _ fits.next).0 in
    let low = sound.since job has.timing has.there in
    let ordered = fits.ordered in
    let more = held-more (λ _. 1) 0 job c.span c.timings c.covered has.timing piece.upto has.there inside low (omega arith) in
    let added : length (starts rule (slice_index c.covered job) piece.upto) ≡ length (starts piece.rule piece.since piece.upto) =
    ap₂ (λ own since. length (starts own since piece.upto)) has.same reached in
    omega (
      arith,
      more,
      added,
      weigh-length (held (after c k (Part job piece))),
      weigh-length (held c),
      weigh-length (entries_of (0 + job) (starts rule (slice_index c.covered job) piece.upto)),
      length-entries_of (0 + job) (starts rule (slice_index c.covered job) piece.upto),
    )
held_after k c Last sound fits = omega arith

-- a collector stays sound after a message that fits and keeps the limit
sound_after : (k : ℕ) (c : Collected) (note : Note) → IsSound c → Fits k c note → has_room c note ≡ true → IsSound (after c k note)
sound_after k c (Part job piece) sound fits room =
    let reached : slice_index c.covered job ≡ piece.since = eqb-true _ _ (and_parts _ _ fits.next).0 in
    let size = length-set c.covered job piece.upto in
    let few : length (held c) + length (starts piece.rule piece.since piece.upto) ≤ c.limit = leb-true _ _ room in
    let new = held_after k c (Part job piece) sound fits in
    record {
      jobs = size ∙ sound.jobs;
      since = λ j timing there. (elim (cases_eq j job) [
        | inl is ↦ (
            let jobs = sound.jobs in
            let known : j < length c.timings = slice_get_within c.timings j timing there in
            let within : job < length c.covered = omega arith in
            let low = sound.since j timing there in
            let was : get_or c.covered j 0 ≡ get_or c.covered job 0 = ap (λ place. get_or c.covered place 0) is in
            let now : get_or (set c.covered job piece.upto) job 0 ≡ piece.upto = get_or-set_same c.covered job piece.upto 0 within in
            let same : get_or (set c.covered job piece.upto) j 0 ≡ piece.upto = ap
            (λ place. get_or (set c.covered job piece.upto) place 0) is ∙ now in
            let ordered : piece.since ≤ piece.upto = fits.ordered in
            omega arith)
        | inr not ↦ (
            let old = sound.since j timing there in
            let same : get_or (set c.covered job piece.upto) j 0 ≡ get_or c.covered j 0 =
            get_or-set_other c.covered job j piece.upto 0 not in
            omega arith)
      ]);
      few = omega arith;
    }
sound_after k c Last sound fits room = record { jobs = sound.jobs; since = sound.since; few = sound.few }

-- ---- all together

-- what a planner still sends: it fits to the end, or brings more starts than the limit
abbrev pub Sends : ℕ → Collected → List Note → Type 0
Sends k c notes = Ready k c notes ⊎ ((count : ℕ) × ((count ≤ length (held c)) × Over c.limit count k c notes))

all_of :
    {X : Type 0} (test : X → Bool) (xs : List X) (d : X) → ((i : ℕ) → i < length xs → test (get_or xs i d) ≡ true) →
    list_all test xs ≡ true
all_of test [] d each = refl
all_of test (x ∷ xs) d each = and_from _ _ (each 0 (omega arith)) (all_of test xs d (λ i inside. each (suc i) (omega arith)))

-- if nothing more comes, a planner is done: it can't have sent more than the limit
done_of : (k : ℕ) (c : Collected) → IsSound c → Sends k c [] → IsDone k c
done_of k c sound (inl done) = done
done_of k c sound (inr (count, (held_so_far, more))) = let few = sound.few in absurd (omega arith)

complete_of : (c : Collected) → IsSound c → 0 < length c.ended → ((k : ℕ) → k < length c.ended → Sends k c []) → is_complete c ≡ true
complete_of c sound some each =
    and_from _ _
    (all_of (λ upto. upto == c.span.upto) c.covered 0 (λ j inside.
    let own : j % length c.ended < length c.ended = omega arith in
    eq-eqb _ _ ((done_of (j % length c.ended) c sound (each (j % length c.ended) own)).covered j inside refl)))
    (all_of (λ ended. ended) c.ended false (λ k inside.
    sym (unwrap_or-slice_get c.ended k false) ∙ (done_of k c sound (each k inside)).ended))

-- the first message of a history is the next of its planner
notes_own : (k : ℕ) (sent : ℕ × Note) (history : List (ℕ × Note)) → sent.0 ≡ k → notes_of k (sent ∷ history) ≡ sent.1 ∷ notes_of k history
notes_own k sent history is = rw (eq-eqb sent.0 k is) refl

notes_other : (k : ℕ) (sent : ℕ × Note) (history : List (ℕ × Note)) → (sent.0 ≡ k → ⊥) → notes_of k (sent ∷ history) ≡ notes_of k history
notes_other k sent history not = rw (ne_eqb sent.0 k not) refl

fits_of : (k : ℕ) (c : Collected) (note : Note) (notes : List Note) → Sends k c (note ∷ notes) → Fits k c note
fits_of k c note notes (inl (fits, rest)) = fits
fits_of k c note notes (inr (count, (few, (fits, rest)))) = fits

-- what a planner still sends after a message was accepted
sends_own :
    (k : ℕ) (c : Collected) (note : Note) (notes : List Note) → IsSound c → Sends k c (note ∷ notes) →
    Sends k (after c k note) notes
sends_own k c note notes sound (inl (fits, rest)) = inl rest
sends_own k c (Part job piece) notes sound (inr (count, (few, (fits, rest)))) =
    let new = held_after k c (Part job piece) sound fits in
    inr (count + starts_in (Part job piece), (omega arith, rest))
sends_own k c Last notes sound (inr (count, (few, (fits, rest)))) = inr (count + 0, (omega arith, rest))

sends_other :
    (k other : ℕ) (c : Collected) (note : Note) (notes : List Note) → other ≢ k → IsSound c → Fits k c note → Sends other c notes →
    Sends other (after c k note) notes
sends_other k other c note notes not sound fits (inl rest) =
    inl (alike_ready other notes c (after c k note) (alike_other k other c note not fits) rest)
sends_other k other c (Part job piece) notes not sound fits (inr (count, (few, rest))) =
    let new = held_after k c (Part job piece) sound fits in
    let alike = alike_other k other c (Part job piece) not fits in
    inr (count, (omega arith, alike_over c.limit count other notes c (after c k (Part job piece)) alike rest))
sends_other k other c Last notes not sound fits (inr (count, (few, rest))) =
    inr (count, (few, alike_over c.limit count other notes c (after c k Last) (alike_other k other c Last not fits) rest))

-- a message that fits is rejected only for too many starts
fault_of_fitting :
    (k : ℕ) (c : Collected) (note : Note) → Fits k c note → fault_of_note c k note ≡ (if has_room c note then None else Some TooMany)
fault_of_fitting k c note fits = rw (fits.own, fits.early, fits.next) refl

-- each message is from one of these planners
abbrev pub AllOf : (planners : ℕ) → List (ℕ × Note) → Type 0
AllOf planners [] = Unit {0}
AllOf planners (sent ∷ history) = (sent.0 < planners) × AllOf planners history

size_after : (k : ℕ) (c : Collected) (note : Note) → length (after c k note).ended ≡ length c.ended
size_after k c (Part job piece) = refl
size_after k c Last = length-set c.ended k true

answer_accepted :
    (c : Collected) (sent : ℕ × Note) (history : List (ℕ × Note)) → fault_of_note c sent.0 sent.1 ≡ None →
    answer_to c (sent ∷ history) ≡ answer_to (after c sent.0 sent.1) history
answer_accepted c sent history is = rw (is, answer_to) refl

answer_rejected :
    (c : Collected) (sent : ℕ × Note) (history : List (ℕ × Note)) (fault : CollectFault) → fault_of_note c sent.0 sent.1 ≡ Some fault →
    answer_to c (sent ∷ history) ≡ Err fault
answer_rejected c sent history fault is = rw (is, answer_to) refl

-- the collector accepted all and is complete, or it answered TooMany
abbrev pub IsFair : Result Collected CollectFault → Type 0
IsFair answer = MatchResult answer (λ d. is_complete d ≡ true) (λ fault. fault ≡ TooMany)

-- the answer is one of these, in every order of arrival
pub merged :
    (history : List (ℕ × Note)) (c : Collected) → IsSound c → 0 < length c.ended → AllOf (length c.ended) history →
    ((k : ℕ) → k < length c.ended → Sends k c (notes_of k history)) → IsFair (answer_to c history)
merged [] c sound some known each = complete_of c sound some each
merged (sent ∷ history) c sound some known each =
    let k = sent.0 in
    let note = sent.1 in
    let mine : Sends k c (note ∷ notes_of k history) = rw (notes_own k sent history refl) at (each k known.0) in
    let fits : Fits k c note = fits_of k c note (notes_of k history) mine in
    let tested : fault_of_note c k note ≡ (if has_room c note then None else Some TooMany) = fault_of_fitting k c note fits in
    elim (cases_Bool (has_room c note)) [
      | inl room ↦ (
          let size : length (after c k note).ended ≡ length c.ended = size_after k c note in
          let accepted : fault_of_note c k note ≡ None = tested ∙ (rw room refl) in
          subst IsFair (sym (answer_accepted c sent history accepted))
          (merged history (after c k note) (sound_after k c note sound fits room) (omega arith)
          (subst (λ n. AllOf n history) (sym size) known.1)
          (λ other among. elim (cases_eq other k) [
            | inl is ↦ subst (λ planner. Sends planner (after c k note) (notes_of planner history)) (sym is)
                (sends_own k c note (notes_of k history) sound mine)
            | inr not ↦ sends_other k other c note (notes_of other history) not sound fits
                (rw (notes_other other sent history (λ same. not (sym same))) at (each other (omega arith)))
          ])))
      | inr full ↦ (
          let too_many : fault_of_note c k note ≡ Some TooMany = tested ∙ (rw full refl) in
          subst IsFair (sym (answer_rejected c sent history TooMany too_many)) refl)
    ]
