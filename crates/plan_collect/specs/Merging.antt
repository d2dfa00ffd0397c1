-- What a collector answers to the messages of planners, in any order of arrival (agenda).
use Rattle.std.specs.Prelude.{◌≡◌, ℕ, ◌≤◌, true, List, [], ◌∷◌, Some, None, Result, Ok, Err, MatchResult}
use Rattle.plan_collect.specs.declared.note.Note.{Note}
use Rattle.plan_collect.specs.declared.collector.CollectFault.{CollectFault}
use Rattle.plan_collect.specs.declared.collector.CollectFault.TheVariants.{TooMany}
use Rattle.plan_next.specs.Span.{Bounds}
use Rattle.plan_collect.specs.Limits.{is_size}
use Rattle.plan_collect.specs.Collecting.{Collected, begun, fault_of_note, after, is_complete}
use Rattle.plan_collect.specs.Tiling.{IsMerging}
use Rattle.plan_collect.specs.Windows.{Timing}

-- the answer to messages that arrive one after another, each with its planner's number: the first that is rejected ends it
abbrev pub answer_to : Collected → List (ℕ × Note) → Result Collected CollectFault
answer_to c [] = Ok c
answer_to c (sent ∷ history) = elim (fault_of_note c sent.0 sent.1) [
  | None ↦ answer_to (after c sent.0 sent.1) history
  | Some fault ↦ Err fault
]

-- in every order in which the messages of all planners may arrive, a new collector accepts them all and is complete, or
-- it answers TooMany: no other error comes
abbrev pub AcceptsMergings : Type 0
AcceptsMergings = (planners limit : ℕ) (timings : List Timing) (span : Bounds) (history : List (ℕ × Note))
    → is_size planners ≡ true → span.since ≤ span.upto → IsMerging planners limit timings span history
    → MatchResult (answer_to (begun timings span planners limit) history) (λ c. is_complete c ≡ true) (λ fault. fault ≡ TooMany)
