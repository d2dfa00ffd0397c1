-- What planners send (agenda).
use Rattle.std.specs.Prelude.{◌≡◌, ℕ, zero, suc, ◌+◌, ◌-◌, ◌%◌, ◌<◌, ◌==◌, nat_lt, if◌then◌else◌, true, false, List, [], ◌∷◌, ◌++◌, length, map, filter, slice_get, Some}
use Rattle.plan_match.specs.declared.rule.Rule.{Rule}
use Rattle.plan_next.specs.Starts.{starts}
use Rattle.plan_next.specs.Piece.{Part, piece_of}
use Rattle.plan_collect.specs.declared.note.Note.{Note}
use Rattle.plan_collect.specs.declared.note.Note.TheVariants as note
use Rattle.plan_next.specs.Span.{Bounds}
use Rattle.plan_collect.specs.Limits.{most_starts}
use Rattle.plan_collect.specs.Windows.{Timing, first_second}

-- the pieces of a rule from `since` on, each starting where the one before it ends, until one ends with the part: at
-- least one piece, and at most `seconds` and one
unfoldable pub pieces_within : (seconds : ℕ) → Rule → (since upto : ℕ) → List Part
pieces_within zero rule since upto = piece_of rule since upto most_starts ∷ []
pieces_within (suc seconds) rule since upto =
    let piece = piece_of rule since upto most_starts in
    elim (nat_lt piece.upto upto) [ true ↦ piece ∷ pieces_within seconds rule piece.upto upto | false ↦ piece ∷ [] ]

-- the pieces of a rule in a part of time; each but the last has a start, so there are no more of them than the part has
-- seconds, but at least one
abbrev pub pieces : Rule → (since upto : ℕ) → List Part
pieces rule since upto = pieces_within (upto - since) rule since upto

-- the pieces of the jobs of a planner, ascending, each job's from the second at which its windows first meet the span; the
-- first job has number `job`
unfoldable pub parts_from : (job planner planners : ℕ) → List Timing → Bounds → List Note
parts_from job planner planners [] span = []
parts_from job planner planners (timing ∷ timings) span =
    (if job % planners == planner
    then map (note.Part job) (pieces timing.rule (first_second span timing.delay) span.upto)
    else [])
    ++ parts_from (job + 1) planner planners timings span

-- a planner's tiling: the pieces of its jobs, then its last message
abbrev pub tiling : (planner planners : ℕ) → List Timing → Bounds → List Note
tiling planner planners timings span = parts_from 0 planner planners timings span ++ note.Last ∷ []

-- how many starts a message brings
abbrev pub starts_in : Note → ℕ
starts_in (note.Part job piece) = length (starts piece.rule piece.since piece.upto)
starts_in note.Last = 0

-- the messages up to the first with which there are more than `limit` starts, after `count` that came before; all if there is none
unfoldable pub cut_after : (limit count : ℕ) → List Note → List Note
cut_after limit count [] = []
cut_after limit count (first ∷ notes) =
    let reached = count + starts_in first in
    elim (nat_lt limit reached) [ true ↦ first ∷ [] | false ↦ first ∷ cut_after limit reached notes ]

-- what a planner sends: its tiling, up to the piece with which it has sent more than `limit` starts
abbrev pub sent_by : (planner planners limit : ℕ) → List Timing → Bounds → List Note
sent_by planner planners limit timings span = cut_after limit 0 (tiling planner planners timings span)

-- the messages of one planner among those of all, in order
abbrev pub notes_of : (planner : ℕ) → List (ℕ × Note) → List Note
notes_of planner history = map (λ sent. sent.1) (filter (λ sent. sent.0 == planner) history)

-- a merging of what the planners send: each message is from one of the planners, and those of each are what it sends, in order
pub record IsMerging (planners limit : ℕ) (timings : List Timing) (span : Bounds) (history : List (ℕ × Note)) : Type 0 where
  pub known : (place planner : ℕ) (note : Note) → slice_get history place ≡ Some (planner, note) → planner < planners
  pub each : (planner : ℕ) → planner < planners → notes_of planner history ≡ sent_by planner planners limit timings span
