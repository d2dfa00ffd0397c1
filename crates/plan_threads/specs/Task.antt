-- What contracts see of the task of a plan (agenda).
use Rattle.std.specs.Prelude.{ℕ, ◌<◌, List, length, Result}
use Rattle.plan_rules.specs.Job.{JobParts}
use Rattle.plan_collect.specs.declared.note.Note.{Note}
use Rattle.plan_collect.specs.declared.plan_fault.PlanFault.{PlanFault}
use Rattle.plan_collect.specs.Agenda.{Planned}
use Rattle.plan_collect.specs.Collecting.{Collected}
use Rattle.plan_collect.specs.Planning.{agenda_within}
use Rattle.plan_collect.specs.Span.{Bounds}
use Rattle.plan_collect.specs.Tiling.{sent_by}
use Rattle.plan_collect.specs.Windows.{Timing, agenda_of_windows, timings_of}
use Rattle.plan_threads.specs.declared.task.Task.{Task}

-- the timings that are planned over a span, by how many planners, and the maximum number of entries
pub record TaskParts : Type 0 where
  pub timings : List Timing
  pub span : Bounds
  pub planners : ℕ
  pub limit : ℕ

-- the parts of the task for these jobs
abbrev pub parts_of : List JobParts → Task → TaskParts
parts_of jobs task = record {
  timings = timings_of jobs;
  span = task.span;
  planners = task.sizes.planners;
  limit = task.sizes.limit;
}

-- the task that a collector is for
abbrev pub task_of : Collected → TaskParts
task_of c = record { timings = c.timings; span = c.span; planners = length c.ended; limit = c.limit }

-- all messages that planner k sends
abbrev pub all_notes : TaskParts → ℕ → List Note
all_notes task k = sent_by k task.planners task.limit task.timings task.span

-- the agenda has more entries than the limit
abbrev pub HasTooMany : TaskParts → Type 0
HasTooMany task = task.limit < length (agenda_of_windows task.timings task.span)

-- the answer of a task: its agenda, or that it has more entries than the limit
abbrev pub answer_of : TaskParts → Result Planned PlanFault
answer_of task = agenda_within task.timings task.span task.limit
