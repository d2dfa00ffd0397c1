-- What the calling thread of a plan knows about the messages that it took (agenda).
use Rattle.std.specs.Prelude.{◌≡◌, ◌≢◌, ℕ, ◌+◌, ◌<◌, ◌≤◌, true, List, [], ◌∷◌, length, Option, None, Some, slice_get, Result, Ok, Err}
use Rattle.plan_collect.specs.declared.note.Note.{Note}
use Rattle.plan_collect.specs.declared.collector.CollectFault.{CollectFault}
use Rattle.plan_collect.specs.declared.collector.CollectFault.TheVariants.{NoMemory, TooMany}
use Rattle.plan_collect.specs.declared.plan_fault.PlanFault.{PlanFault}
use Rattle.plan_collect.specs.declared.plan_fault.PlanFault.TheVariants as plan
use Rattle.plan_collect.specs.Collecting.{Collected, begun, fault_of_note, after, is_complete}
use Rattle.plan_collect.specs.Limits.{is_size}
use Rattle.plan_collect.specs.Merging.{answer_to}
use Rattle.plan_collect.specs.Tiling.{notes_of}
use Rattle.std.specs.declared.thread.PromisedHandle.{PromisedHandle}
use Rattle.plan_threads.specs.declared.desk.Desk.{Desk}
use Rattle.plan_threads.specs.declared.promise.PlannerPromise.{PlannerPromise}
use Rattle.plan_threads.specs.Promise.{promised}
use Rattle.plan_threads.specs.Task.{TaskParts, HasTooMany, task_of}
use Rattle.plan_mailbox.specs.declared.outlet.Outlet.{Outlet}
use Rattle.plan_mailbox.specs.Ends.{ReceivingEnd, Ring, Accounts, inlet_of, outlet_of, taken_at, is_settled_at}

-- each message is from one of this many planners
abbrev pub AreOf : (planners : ℕ) → List (ℕ × Note) → Type 0
AreOf planners [] = Unit {0}
AreOf planners (sent ∷ history) = (sent.0 < planners) × AreOf planners history

-- the result of the messages that arrived: the collector accepted them all, or this was its first error; nothing is
-- stated if an allocation failed
abbrev pub Stands : Result Collected CollectFault → Collected → Option CollectFault → Type 0
Stands answer c None = answer ≡ Ok c
Stands answer c (Some fault) = fault ≢ NoMemory → answer ≡ Err fault

-- the messages that a desk took arrived in some order, and its collector and its first error are the result of that order
pub record IsGathering (task : TaskParts) (desk : Desk) : Type 0 where
  pub same : task_of desk.collector ≡ task
  pub size : is_size task.planners ≡ true
  pub ordered : task.span.since ≤ task.span.upto
  pub lanes : length (inlet_of desk.inlet).taken ≡ task.planners
  pub rings : length (inlet_of desk.inlet).rings ≡ task.planners
  pub too_many : desk.first_fault ≡ Some TooMany → HasTooMany task
  pub history : List (ℕ × Note)
  pub known : AreOf task.planners history
  pub each : (k : ℕ) → k < task.planners → notes_of k history ≡ taken_at (inlet_of desk.inlet) k
  pub stands : Stands (answer_to (begun task.timings task.span task.planners task.limit) history) desk.collector desk.first_fault

-- the receipt of sender s was settled, and these messages are what it sent
abbrev pub IsAccounted : ReceivingEnd Note → ℕ → List Note → Type 0
IsAccounted b s sent = (is_settled_at b s ≡ true) × Accounts b s sent

-- a thread promises the messages of planner k of a task, through the ring of sender k
pub record IsPlanner (task : TaskParts) (rings : List Ring) (k : ℕ) (promise : PlannerPromise) : Type 0 where
  pub sender : (outlet_of promise.outlet.value).sender ≡ k
  pub ring : slice_get rings k ≡ Some (outlet_of promise.outlet.value).ring
  pub same : promised promise ≡ task

-- these threads are those of the planners from k on, in order
abbrev pub ArePlanners : {T : Type 0} → TaskParts → List Ring → (k : ℕ) → List (PromisedHandle T PlannerPromise) → Type 0
ArePlanners task rings k [] = Unit {0}
ArePlanners task rings k (thread ∷ threads) = IsPlanner task rings k thread.promise × ArePlanners task rings (k + 1) threads

-- what a message does to a collector that has rejected none
abbrev pub Meets : Collected → (planner : ℕ) → Note → Collected → Option CollectFault → Type 0
Meets c planner note new None = (fault_of_note c planner note ≡ None) × (new ≡ after c planner note)
Meets c planner note new (Some fault) =
    (new ≡ c) × (fault ≢ NoMemory → fault_of_note c planner note ≡ Some fault) × (fault ≡ TooMany → HasTooMany (task_of c))

-- a message is accepted or rejected; it is dropped if one was rejected before
abbrev pub Steps : Collected → Option CollectFault → (planner : ℕ) → Note → Collected → Option CollectFault → Type 0
Steps c None planner note new later = Meets c planner note new later
Steps c (Some fault) planner note new later = (new ≡ c) × (later ≡ Some fault)

-- everything that was sent has arrived: the collector is complete, or there are more starts than its limit, or an allocation failed
abbrev pub IsWhole : Collected → Option CollectFault → Type 0
IsWhole c None = is_complete c ≡ true
IsWhole c (Some fault) = fault ≢ NoMemory → (fault ≡ TooMany) × HasTooMany (task_of c)

-- the errors of the threads, apart from those of their messages
abbrev pub IsThreadFault : PlanFault → Type 0
IsThreadFault plan.NoMemory = Unit {0}
IsThreadFault fault = ⊥

-- these outlets are those of the senders from k on, in order, and nothing was sent
abbrev pub AreFresh : List Ring → (k : ℕ) → List (Outlet Note) → Type 0
AreFresh rings k [] = Unit {0}
AreFresh rings k (outlet ∷ outlets) =
    ((outlet_of outlet).sender ≡ k) × (slice_get rings k ≡ Some (outlet_of outlet).ring) × ((outlet_of outlet).sent ≡ [])
    × AreFresh rings (k + 1) outlets
