-- A mailbox as its callers see it, and what each call does to it (agenda).
use Rattle.std.specs.Prelude.{◌≡◌, ℕ, ◌+◌, ◌%◌, Bool, true, false, not, ◌==◌, nat_lt, nat_le, ◌&&◌, if◌then◌else◌, List, [], ◌∷◌, ◌++◌, length, drop, replicate, Option, slice_get, slice_set, slice_index_or}
use Rattle.std.specs.List.{list_all, list_any, AllPass}
use Rattle.plan_mailbox.specs.declared.replies.Step.{Step}
use Rattle.plan_mailbox.specs.declared.replies.Step.TheVariants.{Send, Take, Close}
use Rattle.plan_mailbox.specs.declared.replies.Reply.{Reply}
use Rattle.plan_mailbox.specs.declared.replies.Reply.TheVariants.{Sent, Full, Closed, NoSender, Took, Shut, AlreadyShut, Unknown}
use Rattle.plan_mailbox.specs.Turn.{in_turn, line_of}
use Rattle.plan_mailbox.specs.History.{Event, waiting_of, was_closed, turn_of, is_send}
use Rattle.plan_mailbox.specs.Reply.{taking}

-- a mailbox of messages M
pub record Mailbox (M : Type 0) : Type 0 where
  -- the capacity of each sender, in messages
  pub room : ℕ
  -- for each sender, its waiting messages, the oldest first
  pub waiting : List (List M)
  -- for each sender, whether it is closed
  pub closed : List Bool
  -- the sender that a take checks first
  pub turn : ℕ
  -- whether a message was ever sent
  pub has_sent : Bool

-- how many senders it has
abbrev pub senders_of : {M : Type 0} → Mailbox M → ℕ
senders_of b = length b.waiting

-- the waiting messages of sender s
abbrev pub waiting_at : {M : Type 0} → Mailbox M → ℕ → List M
waiting_at b s = slice_index_or b.waiting s []

-- whether sender s is closed
abbrev pub is_closed_at : {M : Type 0} → Mailbox M → ℕ → Bool
is_closed_at b s = slice_index_or b.closed s false

-- a new mailbox: nothing waits, no sender is closed, the first has the turn, and no message was sent
abbrev pub new_mailbox : {M : Type 0} → ℕ → ℕ → Mailbox M
new_mailbox senders room = record {
  room = room;
  waiting = replicate senders [];
  closed = replicate senders false;
  turn =
      0;
  has_sent = false;
}

-- the maximum number of senders of a mailbox
abbrev pub most_senders : ℕ
most_senders = 8

-- the maximum capacity of a sender, in messages
abbrev pub most_room : ℕ
most_room = 1024

-- the valid sizes of a mailbox: at least 1 sender, with a capacity of at least 1 message, and at most these maximums
abbrev pub is_size : ℕ → ℕ → Bool
is_size senders room = nat_le 1 senders && nat_le senders most_senders && (nat_le 1 room && nat_le room most_room)

-- a mailbox is equal to a new one
abbrev pub IsNew : {M : Type 0} → Mailbox M → Type 0
IsNew b = b ≡ new_mailbox (senders_of b) b.room

-- no message was ever sent, and no sender is closed
abbrev pub IsUnused : {M : Type 0} → Mailbox M → Type 0
IsUnused b = (b.has_sent ≡ false) × AllPass not b.closed

-- the reply to a send, by the first that applies: no such sender, it is closed, its capacity is used up, sent
abbrev pub send_reply : {M : Type 0} → Mailbox M → ℕ → M → Reply M
send_reply b s m = if nat_lt s (senders_of b)
    then (if is_closed_at b s then Closed m else (if length (waiting_at b s) == b.room then Full m else Sent)) else NoSender m

-- the mailbox after a send with this reply: if it was sent, the message waits after the others of its sender
abbrev pub sending : {M : Type 0} → Mailbox M → ℕ → M → Reply M → Mailbox M
sending b s m Sent = record b { waiting = slice_set b.waiting s (waiting_at b s ++ m ∷ []); has_sent = true }
sending b s m reply = b

-- the mailbox after a send
abbrev pub after_send : {M : Type 0} → Mailbox M → ℕ → M → Mailbox M
after_send b s m = sending b s m (send_reply b s m)

-- the message that is first in line, with its sender
abbrev pub next_of : {M : Type 0} → Mailbox M → Option (ℕ × M)
next_of b = slice_get (line_of (waiting_at b) (in_turn (senders_of b) b.turn)) 0

-- the reply to a take: the message that is first in line; if none waits, whether one may still come
abbrev pub take_reply : {M : Type 0} → Mailbox M → Reply M
take_reply b = taking (next_of b) (list_all (λ is_closed. is_closed) b.closed)

-- the mailbox after a take with this reply: the oldest message of that sender is gone, and the sender after it has the turn
abbrev pub taking_from : {M : Type 0} → Mailbox M → Reply M → Mailbox M
taking_from b (Took s m) = record b { waiting = slice_set b.waiting s (drop 1 (waiting_at b s)); turn = (s + 1) % senders_of b }
taking_from b reply = b

-- the mailbox after a take
abbrev pub after_take : {M : Type 0} → Mailbox M → Mailbox M
after_take b = taking_from b (take_reply b)

-- the reply to a close, by the first that applies: no such sender, it is closed already, closed now
abbrev pub close_reply : {M : Type 0} → Mailbox M → ℕ → Reply M
close_reply b s = if nat_lt s (senders_of b) then (if is_closed_at b s then AlreadyShut else Shut) else Unknown

-- the mailbox after a close: the sender is closed, if there is one, and its waiting messages stay
abbrev pub after_close : {M : Type 0} → Mailbox M → ℕ → Mailbox M
after_close b s = record b { closed = slice_set b.closed s true }

-- the reply to a step
abbrev pub reply_of : {M : Type 0} → Mailbox M → Step M → Reply M
reply_of b (Send s m) = send_reply b s m
reply_of b Take = take_reply b
reply_of b (Close s) = close_reply b s

-- the mailbox after a step
abbrev pub after : {M : Type 0} → Mailbox M → Step M → Mailbox M
after b (Send s m) = after_send b s m
after b Take = after_take b
after b (Close s) = after_close b s

-- the mailbox is what the history h leaves of a new one with this many senders and this capacity
pub record IsLeftBy {M : Type 0} (senders room : ℕ) (h : List (Event M)) (b : Mailbox M) : Type 0 where
  pub senders_stay : senders_of b ≡ senders
  pub marks_stay : length b.closed ≡ senders
  pub room_stays : b.room ≡ room
  -- the waiting messages of a sender are what it sent, without what was taken from it
  pub waits : (s : ℕ) → waiting_at b s ≡ waiting_of h s
  pub closed_is : (s : ℕ) → is_closed_at b s ≡ was_closed h s
  pub turn_is : b.turn ≡ turn_of senders h
  pub sent_is : b.has_sent ≡ list_any is_send h
