-- What a planner has sent, and what remains of its messages: for the loops and returns of `send_job` and `send_notes`.
-- Most lemmas are one equation: what was to be sent is what was sent, followed by `cut_rest` of what remains.
-- `rest_first` moves a message from the one to the other. The steps by a piece follow from it, and from these the steps
-- by a job.
use Rattle.std.proofs.Common.{◌≡◌, ℕ, ◌+◌, ◌%◌, ◌<◌, ◌≤◌, ◌⊎◌, true, false, nat_lt, List, [], ◌∷◌, ◌++◌, length, map, drop, get_or, Some, refl, ap, sym, ◌∙◌, arith, append_assoc, append-nil, subst}
use Rattle.std.specs.Prelude.{slice_get, option_map, Result, Ok, Err, OnErr, IsErrAnd}
use Rattle.std.proofs.lemmas.Bool.{cases_lt, lt-ltb, le-ltb}
use Rattle.std.proofs.lemmas.List.{drop_all, drop_more}
use Rattle.std.proofs.lemmas.Option.{get_or_from_slice_get, slice_get-map, slice_get_within}
use Rattle.plan_match.specs.declared.rule.Rule.{Rule}
use Rattle.plan_match.specs.declared.rule.Rule.TheVariants.{Never}
use Rattle.plan_next.specs.Starts.{starts}
use Rattle.plan_next.specs.Piece.{Part, piece_of, piece_end}
use Rattle.plan_rules.specs.Job.{JobParts}
use Rattle.plan_collect.specs.declared.note.Note.{Note}
use Rattle.plan_collect.specs.declared.note.Note.TheVariants as note
use Rattle.plan_collect.specs.Limits.{most_starts}
use Rattle.plan_collect.specs.Tiling.{pieces, parts_from, starts_in, cut_after}
use Rattle.plan_collect.specs.TilingLaws.{pieces_stop, pieces_go_on, parts_none, parts_own, parts_other, cut_here, cut_later, cut_none}
use Rattle.plan_collect.specs.Windows.{Timing, first_second, timing_of, timings_of}
use Rattle.plan_mailbox.specs.History.{IsPrefix}
use Rattle.plan_threads.specs.Sending.{cut_rest}
use Rattle.plan_threads.specs.Task.{TaskParts, all_notes}
use Rattle.std.proofs.lemmas.Bool.Decides.{nat_tests}

-- ---- what remains after a message

pub rest_over : (limit count : ℕ) (notes : List Note) → limit < count → cut_rest limit count notes ≡ []
rest_over limit count notes over = let is : nat_lt limit count ≡ true = lt-ltb _ _ over in rw is refl

pub rest_few : (limit count : ℕ) (notes : List Note) → count ≤ limit → cut_rest limit count notes ≡ cut_after limit count notes
rest_few limit count notes few = let is : nat_lt limit count ≡ false = le-ltb _ _ few in rw is refl

pub rest_first :
    (limit count : ℕ) (first : Note) (notes : List Note) → count ≤ limit →
    cut_rest limit count (first ∷ notes) ≡ first ∷ cut_rest limit (count + starts_in first) notes
rest_first limit count first notes few = grind (arith, nat_tests, rest_few, cases_lt, cut_here, rest_over, cut_later)

-- ---- the pieces of a job

-- what is sent of a job's pieces from a second on, and of other messages
abbrev pub left_of : (limit count job : ℕ) → Rule → (since upto : ℕ) → List Note → List Note
left_of limit count job rule since upto rest = cut_rest limit count (map (note.Part job) (pieces rule since upto) ++ rest)

abbrev pub first_of_job : (job : ℕ) → Rule → (since upto : ℕ) → Note
first_of_job job rule since upto = note.Part job (piece_of rule since upto most_starts)

-- if the first piece ends early, the other pieces remain
pub left_more :
    (limit count job : ℕ) (rule : Rule) (since upto : ℕ) (rest : List Note) → since ≤ upto → count ≤ limit →
    piece_end rule since upto most_starts < upto →
    left_of limit count job rule since upto rest ≡ first_of_job job rule since upto ∷ left_of limit
    (count + starts_in (first_of_job job rule since upto)) job rule (piece_end rule since upto most_starts) upto rest
left_more limit count job rule since upto rest part few more = grind (arith, nat_tests, pieces_go_on, rest_first)

-- if it ends the part, the other messages remain
pub left_last :
    (limit count job : ℕ) (rule : Rule) (since upto : ℕ) (rest : List Note) → since ≤ upto → count ≤ limit →
    upto ≤ piece_end rule since upto most_starts →
    left_of limit count job rule since upto rest ≡ first_of_job job rule since upto ∷ cut_rest limit
    (count + starts_in (first_of_job job rule since upto)) rest
left_last limit count job rule since upto rest part few reached = grind (arith, nat_tests, pieces_stop, rest_first)

-- if it brings more starts than the limit, nothing remains
pub left_over :
    (limit count job : ℕ) (rule : Rule) (since upto : ℕ) (rest : List Note) → since ≤ upto → count ≤ limit →
    limit < count + starts_in (first_of_job job rule since upto) →
    left_of limit count job rule since upto rest ≡ first_of_job job rule since upto ∷ cut_rest limit
    (count + starts_in (first_of_job job rule since upto)) rest
left_over limit count job rule since upto rest part few over = grind (arith, nat_tests, cases_lt, left_more, rest_over, left_last)

-- what was to be sent of a job's pieces is what was sent and what remains from a second on, whatever messages come after
abbrev pub IsSentTo : (limit count job : ℕ) → Rule → (from upto : ℕ) → (before sent : List Note) → (reached since : ℕ) → Type 0
IsSentTo limit count job rule from upto before sent reached since =
    (rest : List Note) → before ++ left_of limit count job rule from upto rest ≡ sent ++ left_of limit reached job rule since upto rest

-- all of it was sent
abbrev pub IsSent : (limit count job : ℕ) → Rule → (from upto : ℕ) → (before sent : List Note) → (reached : ℕ) → Type 0
IsSent limit count job rule from upto before sent reached =
    (rest : List Note) → before ++ left_of limit count job rule from upto rest ≡ sent ++ cut_rest limit reached rest

-- one more piece, which ends at `end` and brings so many starts
pub record IsNext (job : ℕ) (rule : Rule) (since upto : ℕ) (sent new : List Note) (piece : Part) (end brought : ℕ) : Type 0 where
  pub new_is : new ≡ sent ++ note.Part job piece ∷ []
  pub piece_is : piece ≡ piece_of rule since upto most_starts
  pub end_is : end ≡ piece.upto
  pub brought_is : brought ≡ length (starts piece.rule piece.since piece.upto)

pub sent_on :
    (limit count job : ℕ) (rule : Rule) (from upto : ℕ) (before sent new : List Note) (reached since end brought : ℕ) (piece : Part) →
    IsSentTo limit count job rule from upto before sent reached since → since ≤ upto → reached ≤ limit →
    IsNext job rule since upto sent new piece end brought → end < upto →
    IsSentTo limit count job rule from upto before new (reached + brought) end
sent_on limit count job rule from upto before sent new reached since end brought piece so_far part few next more rest = grind (arith, nat_tests, left_more, append_assoc)

pub sent_all :
    (limit count job : ℕ) (rule : Rule) (from upto : ℕ) (before sent new : List Note) (reached since end brought : ℕ) (piece : Part) →
    IsSentTo limit count job rule from upto before sent reached since → since ≤ upto → reached ≤ limit →
    IsNext job rule since upto sent new piece end brought → (limit < reached + brought) ⊎ (upto ≤ end) →
    IsSent limit count job rule from upto before new (reached + brought)
sent_all limit count job rule from upto before sent new reached since end brought piece so_far part few next stop rest = grind (arith, nat_tests, left_over, left_last, append_assoc)

-- ---- the messages of all jobs

-- a planner's messages from a job on
abbrev pub notes_from : TaskParts → (planner job : ℕ) → List Note
notes_from task planner job = parts_from job planner task.planners (drop job task.timings) task.span ++ note.Last ∷ []

-- a timing that never starts, for places without one
abbrev never : Timing
never = record { rule = Never; delay = 0 }

-- a job of another planner changes nothing
notes_other :
    (task : TaskParts) (planner job : ℕ) → job < length task.timings → (job % task.planners ≡ planner → ⊥) →
    notes_from task planner job ≡ notes_from task planner (job + 1)
notes_other task planner job inside other =
    let later = drop (job + 1) task.timings in
    ap (λ timings. parts_from job planner task.planners timings task.span ++ note.Last ∷ []) (drop_more task.timings job never inside)
    ∙ ap (λ notes. notes ++ note.Last ∷ []) (parts_other job planner task.planners (get_or task.timings job never) later task.span other)

-- for a job of the planner, its pieces come first
notes_own :
    (task : TaskParts) (planner job : ℕ) (timing : Timing) → slice_get task.timings job ≡ Some timing → job % task.planners ≡ planner →
    notes_from task planner job
    ≡ map (note.Part job) (pieces timing.rule (first_second task.span timing.delay) task.span.upto)
    ++ notes_from task planner (job + 1)
notes_own task planner job timing is own =
    let later = drop (job + 1) task.timings in
    let here = drop_more task.timings job timing (slice_get_within task.timings job timing is)
    ∙ ap (λ t. t ∷ later) (get_or_from_slice_get task.timings job timing timing is) in
    ap (λ timings. parts_from job planner task.planners timings task.span ++ note.Last ∷ []) here
    ∙ ap (λ notes. notes ++ note.Last ∷ []) (parts_own job planner task.planners timing later task.span own)
    ∙ append_assoc (map (note.Part job) (pieces timing.rule (first_second task.span timing.delay) task.span.upto))
    (parts_from (job + 1) planner task.planners later task.span) (note.Last ∷ [])

-- after all jobs, the last message remains
notes_end : (task : TaskParts) (planner job : ℕ) → length task.timings ≤ job → notes_from task planner job ≡ note.Last ∷ []
notes_end task planner job all = grind (arith, nat_tests, drop_all, parts_none)

-- what was to be sent is what was sent and what remains from a job on
abbrev pub IsSentUpTo : TaskParts → (planner : ℕ) → (sent : List Note) → (count job : ℕ) → Type 0
IsSentUpTo task planner sent count job = all_notes task planner ≡ sent ++ cut_rest task.limit count (notes_from task planner job)

pub upto_other :
    (task : TaskParts) (planner : ℕ) (sent : List Note) (count job : ℕ) → IsSentUpTo task planner sent count job →
    job < length task.timings → (job % task.planners ≡ planner → ⊥) → IsSentUpTo task planner sent count (job + 1)
upto_other task planner sent count job so_far inside other = grind (arith, nat_tests, notes_other)

-- what is sent of the pieces of a job's timing, and of other messages
abbrev left_of_timing : TaskParts → (count job : ℕ) → Timing → List Note → List Note
left_of_timing task count job timing rest =
    left_of task.limit count job timing.rule (first_second task.span timing.delay) task.span.upto rest

-- what was to be sent, if a job of the planner is next
own_whole :
    (task : TaskParts) (planner : ℕ) (sent : List Note) (count job : ℕ) (timing : Timing) → IsSentUpTo task planner sent count job →
    slice_get task.timings job ≡ Some timing → job % task.planners ≡ planner →
    all_notes task planner ≡ sent ++ left_of_timing task count job timing (notes_from task planner (job + 1))
own_whole task planner sent count job timing so_far there own = grind (arith, nat_tests, notes_own)

pub upto_own :
    (task : TaskParts) (planner : ℕ) (sent new : List Note) (count reached job : ℕ) (timing : Timing) →
    IsSentUpTo task planner sent count job → slice_get task.timings job ≡ Some timing → job % task.planners ≡ planner →
    IsSent task.limit count job timing.rule (first_second task.span timing.delay) task.span.upto sent new reached →
    IsSentUpTo task planner new reached (job + 1)
upto_own task planner sent new count reached job timing so_far there own all = grind (arith, nat_tests, own_whole)

pub upto_own_part :
    (task : TaskParts) (planner : ℕ) (sent new : List Note) (count job : ℕ) (timing : Timing) → IsSentUpTo task planner sent count job →
    slice_get task.timings job ≡ Some timing → job % task.planners ≡ planner →
    ((rest : List Note) → IsPrefix new (sent ++ left_of_timing task count job timing rest)) → IsPrefix new (all_notes task planner)
upto_own_part task planner sent new count job timing so_far there own part =
    subst (IsPrefix new) (sym (own_whole task planner sent count job timing so_far there own)) (part (notes_from task planner (job + 1)))

-- everything was sent if there were more starts than the limit
pub upto_over :
    (task : TaskParts) (planner : ℕ) (sent : List Note) (count job : ℕ) → IsSentUpTo task planner sent count job →
    task.limit < count → sent ≡ all_notes task planner
upto_over task planner sent count job so_far over = grind (arith, nat_tests, rest_over, append-nil)

-- everything was sent after all jobs and the last message
pub upto_end :
    (task : TaskParts) (planner : ℕ) (sent : List Note) (count job : ℕ) → IsSentUpTo task planner sent count job →
    length task.timings ≤ job → count ≤ task.limit → sent ++ note.Last ∷ [] ≡ all_notes task planner
upto_end task planner sent count job so_far all few = grind (arith, nat_tests, notes_end, rest_first, rest_few, cut_none)

-- ---- jobs

-- the timing at a job's number is the timing of the job
pub timing_at :
    (jobs : List JobParts) (n : ℕ) (job : JobParts) → Some job ≡ slice_get jobs n →
    slice_get (timings_of jobs) n ≡ Some (timing_of job)
timing_at jobs n job there = slice_get-map timing_of jobs n ∙ ap (option_map timing_of) (sym there)

-- what holds if an allocation failed
pub on_err : {T E : Type 0} (r : Result T E) (e : E) (P : Type 0) → IsErrAnd r (λ f. f ≡ e) → P → OnErr r P
on_err (Ok x) e P is h = tt
on_err (Err f) e P is h = h
