-- The answer of a plan: its agenda, or its first error (agenda).
use Rattle.std.specs.Prelude.{ℕ, nat_le, if◌then◌else◌, List, length, Result, Ok, Err}
use Rattle.plan_texts.specs.Steps.{◌>>=◌, GivesUnless}
use Rattle.plan_mailbox.specs.Mailbox.{is_size}
use Rattle.plan_collect.specs.declared.collector.CollectFault.TheVariants.{TooMany}
use Rattle.plan_collect.specs.declared.plan_fault.PlanFault.{PlanFault}
use Rattle.plan_collect.specs.declared.plan_fault.PlanFault.TheVariants.{NoMemory, BadSize, Collect, BadLimit}
use Rattle.plan_collect.specs.declared.sizes.Sizes.{Sizes}
use Rattle.plan_collect.specs.Agenda.{Planned}
use Rattle.plan_collect.specs.Limits.{is_limit}
use Rattle.plan_collect.specs.Windows.{Timing, agenda_of_windows, planned_windows}
use Rattle.plan_next.specs.Span.{Bounds}

-- sizes in range: the number of planners and their capacity are checked first, then the limit
abbrev pub valid_sizes : Sizes → Result Sizes PlanFault
valid_sizes sizes =
    if is_size sizes.planners sizes.room then (if is_limit sizes.limit then Ok sizes else Err BadLimit) else Err BadSize

-- the agenda of windows of a span, if it has no more entries than the limit
abbrev pub agenda_within : List Timing → Bounds → (limit : ℕ) → Result Planned PlanFault
agenda_within timings span limit =
    if nat_le (length (agenda_of_windows timings span)) limit then Ok (planned_windows timings span) else Err (Collect TooMany)

-- the answer of a plan: its sizes are checked first, then the number of its entries
abbrev pub plan_answer : List Timing → Bounds → Sizes → Result Planned PlanFault
plan_answer timings span sizes = do
  valid ← valid_sizes sizes
  agenda_within timings span valid.limit

-- a plan has this answer, unless an allocation failed
abbrev pub Gives : Result Planned PlanFault → Result Planned PlanFault → Type 0
Gives result answer = GivesUnless NoMemory (λ made. made) result answer
