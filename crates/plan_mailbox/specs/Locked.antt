-- A mailbox behind a lock (agenda).
use Rattle.std.specs.Prelude.{◌≡◌, ℕ, ◌<◌, Option, None, Some, Result, Ok, Err, ⊤}
use Rattle.plan_mailbox.specs.declared.replies.Reply.{Reply}
use Rattle.plan_mailbox.specs.declared.replies.Reply.TheVariants.{Sent, Full, Closed, NoSender, Took, Nothing, Ended, Shut, AlreadyShut, Unknown}
use Rattle.plan_mailbox.specs.declared.lane.Lane as declared
use Rattle.plan_mailbox.specs.declared.queues.QueueLane.{QueueLane}
use Rattle.plan_mailbox.specs.declared.locked.Locked.{Locked}
use Rattle.plan_mailbox.specs.Mailbox.{most_senders}

-- how many senders it has, which is known without the lock
abbrev pub senders_in : {M : Type 0} {lane : declared.Ghosts (QueueLane M) M} → Locked M lane → ℕ
senders_in locked = locked.senders

-- the replies to a send of message m, for a sender of the mailbox: m is sent, or it comes back because the sender is closed
abbrev pub IsSendReply : {M : Type 0} → M → Reply M → Type 0
IsSendReply m Sent = ⊤
IsSendReply m (Closed back) = back ≡ m
IsSendReply m reply = ⊥

-- the replies to a take: a message, or that none will come
abbrev pub IsTakeReply : {M : Type 0} → Reply M → Type 0
IsTakeReply (Took s m) = s < most_senders
IsTakeReply Ended = ⊤
IsTakeReply reply = ⊥

-- the replies to a close, for a sender of the mailbox
abbrev pub IsCloseReply : {M : Type 0} → Reply M → Type 0
IsCloseReply Shut = ⊤
IsCloseReply AlreadyShut = ⊤
IsCloseReply reply = ⊥

-- the answer for a reply under the lock: a message comes back, to be sent again, if the sender's capacity is used up; the
-- number of the sender was checked before
abbrev pub answer_to_send : {M : Type 0} → Reply M → Result (Reply M) M
answer_to_send (Full m) = Err m
answer_to_send (NoSender m) = Ok (Closed m)
answer_to_send reply = Ok reply

-- the answer to a take: it goes on waiting if a message may still come
abbrev pub answer_to_take : {M : Type 0} → Reply M → Option (Reply M)
answer_to_take Nothing = None
answer_to_take reply = Some reply

-- the answer to a close; the number of the sender was checked before
abbrev pub answer_to_close : {M : Type 0} → Reply M → Reply M
answer_to_close Unknown = AlreadyShut
answer_to_close reply = reply
