-- What a mailbox replies to a step, by what happened before it (agenda).
use Rattle.std.specs.Prelude.{◌≡◌, ℕ, Bool, true, false, ◌==◌, nat_lt, if◌then◌else◌, List, length, take, Option, None, Some, slice_get}
use Rattle.std.specs.List.{list_all, range_with_len}
use Rattle.plan_mailbox.specs.declared.replies.Step.{Step}
use Rattle.plan_mailbox.specs.declared.replies.Step.TheVariants.{Send, Take, Close}
use Rattle.plan_mailbox.specs.declared.replies.Reply.{Reply}
use Rattle.plan_mailbox.specs.declared.replies.Reply.TheVariants.{Sent, Full, Closed, NoSender, Took, Nothing, Ended, Shut, AlreadyShut, Unknown}
use Rattle.plan_mailbox.specs.Turn.{in_turn, line_of}
use Rattle.plan_mailbox.specs.History.{Event, waiting_of, was_closed, turn_of, record_of}

-- the reply to a take, from the message that is first in line, if any waits, and whether all senders are closed
abbrev pub taking : {M : Type 0} → Option (ℕ × M) → Bool → Reply M
taking (Some next) all_closed = Took next.0 next.1
taking None true = Ended
taking None false = Nothing

-- the reply to a step after the history h, for a mailbox of this many senders, each with a capacity of `room` messages
abbrev pub reply_after : {M : Type 0} → ℕ → ℕ → List (Event M) → Step M → Reply M
-- a send is rejected if there is no such sender, else if it is closed, else if its capacity is used up
reply_after senders room h (Send s m) = if nat_lt s senders
    then (if was_closed h s then Closed m else (if length (waiting_of h s) == room then Full m else Sent)) else NoSender m
-- a take gives the oldest message of the first sender, from the turn on, that has one waiting
reply_after senders room h Take = taking (slice_get (line_of (waiting_of h) (in_turn senders (turn_of senders h))) 0)
    (list_all (was_closed h) (range_with_len 0 senders))
-- a close is rejected if there is no such sender, else if it is closed already
reply_after senders room h (Close s) = if nat_lt s senders then (if was_closed h s then AlreadyShut else Shut) else Unknown

-- each reply is the one after the history that the steps before it record
abbrev pub RepliesInTurn : {M : Type 0} → ℕ → ℕ → List (Step M) → List (Reply M) → Type 0
RepliesInTurn {M} senders room steps replies =
    (i :
    ℕ) (step : Step M) → slice_get steps i ≡ Some step → slice_get replies i ≡ Some
    (reply_after senders room (record_of (take i steps) (take i replies)) step)
