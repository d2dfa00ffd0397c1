-- The result of a planner's sending (agenda).
use Rattle.std.specs.Prelude.{ℕ, nat_lt, if◌then◌else◌, List, [], ◌∷◌, ◌++◌}
use Rattle.plan_collect.specs.declared.note.Note.{Note}
use Rattle.plan_collect.specs.Tiling.{cut_after}
use Rattle.plan_mailbox.specs.Ends.{SendingEnd}

-- an outlet after a message was sent
abbrev pub after_send : {M : Type 0} → SendingEnd M → M → SendingEnd M
after_send before message = record before { sent = before.sent ++ message ∷ [] }

-- what is sent of these messages after `count` starts were sent: nothing if `count` is more than the limit
abbrev pub cut_rest : (limit count : ℕ) → List Note → List Note
cut_rest limit count notes = if nat_lt limit count then [] else cut_after limit count notes
