-- The ends of a mailbox's rings, as their callers see them (agenda).
use Rattle.std.specs.Prelude.{◌≡◌, ℕ, ◌+◌, ◌%◌, ◌<◌, ◌≤◌, ◌⊎◌, Bool, true, false, List, [], ◌∷◌, ◌++◌, length, map, replicate, slice_index_or, slice_set}
use Rattle.std.specs.List.{enumerate_from}
use Rattle.std.specs.declared.alloc.Global.{Global}
use denote.RawPtr.{Ptr}
use Rattle.rtrb.specs.Shared.{Names}
use Rattle.rtrb.specs.Ring.{sent, received, known_free, known_items}
use Rattle.rtrb.specs.declared.producer.Producer.{Producer}
use Rattle.rtrb.specs.declared.consumer.Consumer.{Consumer}
use Rattle.plan_mailbox.specs.declared.outlet.Outlet.{Outlet}
use Rattle.plan_mailbox.specs.declared.outlet.Receipt.{Receipt}
use Rattle.plan_mailbox.specs.declared.ring_end.RingEnd.{RingEnd}
use Rattle.plan_mailbox.specs.declared.inlet.Inlet.{Inlet}
use Rattle.plan_mailbox.specs.History.{IsPrefix}

-- a ring: what its two ends share, which is its words, its slots, its names and its memory
abbrev pub Ring : Type 0
Ring = Ptr × Ptr × Names × Global

-- the ring of a sending end
abbrev pub producer_ring : {M P : Type 0} → Producer M Global P → Ring
producer_ring p = (p.end.words, p.end.slots, p.end.names, p.end.heap)

-- the ring of a receiving end
abbrev pub consumer_ring : {M P : Type 0} → Consumer M Global P → Ring
consumer_ring c = (c.end.words, c.end.slots, c.end.names, c.end.heap)

-- an outlet, or the receipt of a closed one
pub record SendingEnd (M : Type 0) : Type 0 where
  -- the number of the sender
  pub sender : ℕ
  -- its ring
  pub ring : Ring
  -- the messages that were sent, in order
  pub sent : List M

-- an outlet, as callers see it
abbrev pub outlet_of : {M : Type 0} → Outlet M → SendingEnd M
outlet_of outlet = record { sender = outlet.sender; ring = producer_ring outlet.producer; sent = sent outlet.producer }

-- how many places of its ring an outlet knows to be free
abbrev pub free_of : {M : Type 0} → Outlet M → ℕ
free_of outlet = known_free outlet.producer

-- a receipt, as callers see it
abbrev pub receipt_of : {M : Type 0} → Receipt M → SendingEnd M
receipt_of receipt = outlet_of receipt.outlet

-- the receiving end of all rings
pub record ReceivingEnd (M : Type 0) : Type 0 where
  -- the sender that a take checks first
  pub turn : ℕ
  -- for each sender, its ring
  pub rings : List Ring
  -- for each sender, the messages that were taken from it, in order
  pub taken : List (List M)
  -- for each sender, the messages that are known to wait, the oldest first
  pub known : List (List M)
  -- for each sender, whether its receipt was settled
  pub settled : List Bool

-- the receiving ends of these rings, with this turn
abbrev pub receiving : {M : Type 0} → ℕ → List (RingEnd M) → ReceivingEnd M
receiving turn ends = record {
  turn = turn;
  rings = map (λ e. consumer_ring e.consumer) ends;
  taken = map (λ e. received e.consumer) ends;
  known = map (λ e. known_items e.consumer) ends;
  settled = map (λ e. e.is_settled) ends;
}

-- an inlet, as callers see it
abbrev pub inlet_of : {M : Type 0} → Inlet M → ReceivingEnd M
inlet_of inlet = receiving inlet.turn inlet.ends.items

-- the messages that were taken from sender s
abbrev pub taken_at : {M : Type 0} → ReceivingEnd M → ℕ → List M
taken_at b s = slice_index_or b.taken s []

-- the messages of sender s that are known to wait
abbrev pub known_at : {M : Type 0} → ReceivingEnd M → ℕ → List M
known_at b s = slice_index_or b.known s []

-- whether the receipt of sender s was settled
abbrev pub is_settled_at : {M : Type 0} → ReceivingEnd M → ℕ → Bool
is_settled_at b s = slice_index_or b.settled s false

-- new outlets, one for each of these rings: nothing was sent
abbrev pub new_outlets : {M : Type 0} → List Ring → List (SendingEnd M)
new_outlets rings = map (λ p. record { sender = p.0; ring = p.1; sent = [] }) (enumerate_from 0 rings)

-- a new inlet of these rings: the first sender has the turn, nothing was taken, nothing is known to wait, and no receipt is settled
abbrev pub new_inlet : {M : Type 0} → List Ring → ReceivingEnd M
new_inlet rings = record {
  turn = 0;
  rings = rings;
  taken = replicate (length rings) [];
  known = replicate (length rings) [];
  settled = replicate (length rings) false;
}

-- the inlet after message m was taken from sender s: then the messages `rest` of s are known to wait
abbrev pub after_take : {M : Type 0} → ReceivingEnd M → ℕ → M → List M → ReceivingEnd M
after_take b s m rest = record b {
  turn = (s + 1) % length b.rings;
  taken = slice_set b.taken s (taken_at b s ++ m ∷ []);
  known = slice_set b.known s rest;
}

-- a take checks sender k before sender s: from the turn on, and then from the first sender on, k comes before s
abbrev pub IsBefore : ℕ → ℕ → ℕ → Type 0
IsBefore turn k s = ((turn ≤ k) × (k < s)) ⊎ ((s < turn) × ((turn ≤ k) ⊎ (k < s)))

-- message m was taken from sender s
pub record IsTake {M : Type 0} (before : ReceivingEnd M) (s : ℕ) (m : M) (after : ReceivingEnd M) : Type 0 where
  -- s is a sender of the mailbox
  pub known_sender : s < length before.rings
  -- m is added to what was taken from s, no other sender changes, and the sender after s has the turn
  pub taken : after ≡ after_take before s m (known_at after s)
  -- the messages that were known to wait of s come first
  pub oldest : IsPrefix (known_at before s) (m ∷ known_at after s)
  -- if the receipt of s was settled, no other messages come
  pub all_known : is_settled_at before s ≡ true → known_at before s ≡ m ∷ known_at after s
  -- no messages are known to wait of the senders that were checked before s
  pub passed : (k : ℕ) → IsBefore before.turn k s → known_at before k ≡ []

-- no messages are known to wait, of any sender
abbrev pub NothingKnown : {M : Type 0} → ReceivingEnd M → Type 0
NothingKnown b = (s : ℕ) → known_at b s ≡ []

-- `sent` is what was taken from sender s, followed by what is known to wait
abbrev pub Accounts : {M : Type 0} → ReceivingEnd M → ℕ → List M → Type 0
Accounts b s sent = taken_at b s ++ known_at b s ≡ sent

-- the inlet after the receipt of sender s was settled: then the messages `rest` of s are known to wait
abbrev pub after_settle : {M : Type 0} → ReceivingEnd M → ℕ → List M → ReceivingEnd M
after_settle b s rest = record b { known = slice_set b.known s rest; settled = slice_set b.settled s true }

-- message m was taken from sender s, when the senders from `from` to before `upto` were checked; the turn doesn't matter
pub record IsTakeAmong {M : Type 0} (from upto : ℕ) (before : ReceivingEnd M) (s : ℕ) (m : M) (after : ReceivingEnd M) : Type 0 where
  pub known_sender : (from ≤ s) × (s < upto)
  pub taken : after ≡ record before
      { taken = slice_set before.taken s (taken_at before s ++ m ∷ []); known = slice_set before.known s (known_at after s) }
  pub oldest : IsPrefix (known_at before s) (m ∷ known_at after s)
  pub all_known : is_settled_at before s ≡ true → known_at before s ≡ m ∷ known_at after s
  pub passed : (k : ℕ) → from ≤ k → k < s → known_at before k ≡ []
