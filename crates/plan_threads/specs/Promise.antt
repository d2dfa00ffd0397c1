-- What a planner's thread promises (agenda).
use Rattle.std.specs.Prelude.{◌≡◌, Bool, false}
use Rattle.plan_collect.specs.declared.note.Note.{Note}
use Rattle.plan_mailbox.specs.declared.outlet.Receipt.{Receipt}
use Rattle.plan_mailbox.specs.Ends.{outlet_of, receipt_of}
use Rattle.plan_threads.specs.declared.promise.PlannerPromise.{PlannerPromise}
use Rattle.plan_threads.specs.Task.{TaskParts, all_notes, parts_of}

-- the task of the promise
abbrev pub promised : PlannerPromise → TaskParts
promised p = parts_of p.jobs.value p.task.value

-- the receipt is that of the outlet, and unless an allocation failed, it is for everything that its sender has to send
abbrev pub Keeps : PlannerPromise → Receipt Note × Bool → Type 0
Keeps p r =
    ((receipt_of r.0).sender ≡ (outlet_of p.outlet.value).sender)
    × ((receipt_of r.0).ring ≡ (outlet_of p.outlet.value).ring)
    × (r.1 ≡ false → (receipt_of r.0).sent ≡ all_notes (promised p) (outlet_of p.outlet.value).sender)
