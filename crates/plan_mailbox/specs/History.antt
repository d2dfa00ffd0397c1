-- What happened in a mailbox, as a list of events, and what follows from the list (agenda).
use Rattle.std.specs.Prelude.{◌≡◌, ℕ, ◌+◌, ◌%◌, ◌≤◌, ◌<◌, Bool, true, false, ◌==◌, if◌then◌else◌, List, [], ◌∷◌, ◌++◌, length, take, drop, Option, None, Some, slice_get, flat_map, zip, count_by, All}
use Rattle.std.specs.List.{list_any, last_or}
use Rattle.plan_mailbox.specs.declared.replies.Step.{Step}
use Rattle.plan_mailbox.specs.declared.replies.Step.TheVariants.{Send, Take, Close}
use Rattle.plan_mailbox.specs.declared.replies.Reply.{Reply}
use Rattle.plan_mailbox.specs.declared.replies.Reply.TheVariants.{Sent, Took, Shut}

-- an event: a sender sends a message, a message is taken from a sender, or a sender is closed
pub data Event (M : Type 0) : Type 0 where
  Sends : ℕ → M → Event M
  Takes : ℕ → M → Event M
  Closes : ℕ → Event M

-- the sender of an event
abbrev pub sender_of : {M : Type 0} → Event M → ℕ
sender_of (Sends s m) = s
sender_of (Takes s m) = s
sender_of (Closes s) = s

-- the messages that sender s sends by an event
abbrev pub sent_by : {M : Type 0} → ℕ → Event M → List M
sent_by s (Sends t m) = if t == s then m ∷ [] else []
sent_by s (Takes t m) = []
sent_by s (Closes t) = []

-- the messages that are taken from sender s by an event
abbrev pub taken_by : {M : Type 0} → ℕ → Event M → List M
taken_by s (Sends t m) = []
taken_by s (Takes t m) = if t == s then m ∷ [] else []
taken_by s (Closes t) = []

-- whether an event closes sender s
abbrev pub closes : {M : Type 0} → ℕ → Event M → Bool
closes s (Sends t m) = false
closes s (Takes t m) = false
closes s (Closes t) = t == s

-- whether an event is a send
abbrev pub is_send : {M : Type 0} → Event M → Bool
is_send (Sends s m) = true
is_send (Takes s m) = false
is_send (Closes s) = false

-- the senders from which a message is taken by an event
abbrev pub giver_of : {M : Type 0} → Event M → List ℕ
giver_of (Sends s m) = []
giver_of (Takes s m) = s ∷ []
giver_of (Closes s) = []

-- the messages that sender s sent, in order
abbrev pub sent_of : {M : Type 0} → List (Event M) → ℕ → List M
sent_of h s = flat_map (sent_by s) h

-- the messages that were taken from sender s, in order
abbrev pub taken_of : {M : Type 0} → List (Event M) → ℕ → List M
taken_of h s = flat_map (taken_by s) h

-- the waiting messages of sender s: what it sent, without as many messages from the start as were taken from it
abbrev pub waiting_of : {M : Type 0} → List (Event M) → ℕ → List M
waiting_of h s = drop (length (taken_of h s)) (sent_of h s)

-- whether sender s was closed
abbrev pub was_closed : {M : Type 0} → List (Event M) → ℕ → Bool
was_closed h s = list_any (closes s) h

-- the sender after the one from which a message was taken, and after the last sender the first; the first if none was taken
abbrev pub turn_after : ℕ → Option ℕ → ℕ
turn_after senders None = 0
turn_after senders (Some s) = (s + 1) % senders

-- the sender that a take checks first: the one after the sender of the last message taken
abbrev pub turn_of : {M : Type 0} → ℕ → List (Event M) → ℕ
turn_of senders h = turn_after senders (last_or None (flat_map giver_of h))

-- xs is a prefix of ys: ys is xs, followed by the rest of ys
abbrev pub IsPrefix : {M : Type 0} → List M → List M → Type 0
IsPrefix xs ys = ys ≡ xs ++ drop (length xs) ys

-- A history is lawful for a mailbox of this many senders, each with a capacity of `room` messages. The first k events,
-- for any k, are the history at one time.
pub record IsLawful {M : Type 0} (senders room : ℕ) (h : List (Event M)) : Type 0 where
  -- at any time, what was taken from a sender is a prefix of what it sent
  pub in_order : (k s : ℕ) → IsPrefix (taken_of (take k h) s) (sent_of (take k h) s)
  -- at any time, no more messages of a sender wait than its capacity
  pub roomy : (k s : ℕ) → length (waiting_of (take k h) s) ≤ room
  -- a sender is closed at most once
  pub closed_once : (s : ℕ) → count_by (closes s) h ≤ 1
  -- a sender sends nothing after it was closed
  pub closed : (k s : ℕ) → was_closed (take k h) s ≡ true → sent_of (drop k h) s ≡ []
  -- each event has a sender of the mailbox
  pub known : All (λ e. sender_of e < senders) h

-- each message once, and in order: the message taken from a sender at place k is the one that it sent at place k
abbrev pub IsInOrder : {M : Type 0} → List (Event M) → Type 0
IsInOrder {M} h = (s k : ℕ) (m : M) → slice_get (taken_of h s) k ≡ Some m → slice_get (sent_of h s) k ≡ Some m

-- each send of a sender comes before its close
abbrev pub SendsBeforeClose : {M : Type 0} → List (Event M) → Type 0
SendsBeforeClose {M} h = (s i j : ℕ) (m : M) → slice_get h i ≡ Some (Closes s) → slice_get h j ≡ Some (Sends s m) → j < i

-- the event that a step makes, if its reply says that it took effect
abbrev pub event_of : {M : Type 0} → Step M → Reply M → List (Event M)
event_of (Send s m) Sent = Sends s m ∷ []
event_of Take (Took s m) = Takes s m ∷ []
event_of (Close s) Shut = Closes s ∷ []
event_of step reply = []

-- the history that a list of steps records, with a reply to each
abbrev pub record_of : {M : Type 0} → List (Step M) → List (Reply M) → List (Event M)
record_of steps replies = flat_map (λ p. event_of p.0 p.1) (zip steps replies)
