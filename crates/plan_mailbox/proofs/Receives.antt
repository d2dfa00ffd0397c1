-- The receiving ends, when one of them changes: for `take_among`, and for `settle` of `Inlet`.
-- `receiving` maps functions over the ends. So a write to one end is a write to each of these lists, or to none if the
-- function gives the same as before (`map_set_same`). `receiving-take` and the two others do so for all four lists.
use Rattle.std.proofs.Common.{◌≡◌, ℕ, ◌+◌, ◌%◌, ◌<◌, ◌≤◌, List, [], ◌∷◌, ◌++◌, length, get_or, set, drop, map, true, false, inl, inr, subst, sym, ap, ◌∙◌, arith}
use Rattle.std.proofs.lemmas.List.{map-set, length-map, get_or_past, get_or-set_same}
use Rattle.std.proofs.lemmas.Bool.{cases_lt}
use Rattle.std.proofs.Math.Seq.{drop-append_seam}
use mathlib.Core.List.{IsPrefix}
use Rattle.rtrb.specs.Ring.{received, known_items}
use Rattle.plan_mailbox.specs.declared.ring_end.RingEnd.{RingEnd}
use Rattle.plan_mailbox.specs.History as history
use Rattle.plan_mailbox.specs.Ends.{consumer_ring, receiving, after_settle, taken_at, known_at, is_settled_at, IsTake, IsTakeAmong, NothingKnown, ReceivingEnd}
use Rattle.plan_mailbox.proofs.Places.{map_read, map_set_same}

-- a list is a prefix of the list that starts with it
pub IsPrefix-rest : {A : Type 0} (xs ys : List A) → IsPrefix xs ys → history.IsPrefix xs ys
IsPrefix-rest xs ys p = sym p.1 ∙ ap (λ rest. xs ++ rest) (sym (drop-append_seam xs p.0) ∙ ap (drop (length xs)) p.1)

module _ {M : Type 0} (turn : ℕ) (ends : List (RingEnd M)) (s : ℕ) (now was : RingEnd M) (within : s < length ends)
    (read : was ≡ get_or ends s was) where
  -- what is seen of the end, before and after
  pub taken-was : taken_at (receiving turn ends) s ≡ received was.consumer
  taken-was = map_read (λ (e : RingEnd M). received e.consumer) ends s was [] within read

  pub known-was : known_at (receiving turn ends) s ≡ known_items was.consumer
  known-was = map_read (λ (e : RingEnd M). known_items e.consumer) ends s was [] within read

  pub settled-was : is_settled_at (receiving turn ends) s ≡ was.is_settled
  settled-was = map_read (λ (e : RingEnd M). e.is_settled) ends s was false within read

  pub taken-now : taken_at (receiving turn (set ends s now)) s ≡ received now.consumer
  taken-now = let within_map : s < length (map (λ (e : RingEnd M). received e.consumer) ends) = rw length-map within in
      ap (λ xs. get_or xs s []) (map-set (λ (e : RingEnd M). received e.consumer) ends s now) ∙ get_or-set_same _ s
      (received now.consumer) [] within_map

  pub known-now : known_at (receiving turn (set ends s now)) s ≡ known_items now.consumer
  known-now = let within_map : s < length (map (λ (e : RingEnd M). known_items e.consumer) ends) = rw length-map within in
      ap (λ xs. get_or xs s []) (map-set (λ (e : RingEnd M). known_items e.consumer) ends s now) ∙ get_or-set_same _ s
      (known_items now.consumer) [] within_map

  module _ (ring : consumer_ring now.consumer ≡ consumer_ring was.consumer) where
    -- an end that doesn't change
    pub receiving-same :
        received now.consumer ≡ received was.consumer → known_items now.consumer ≡ known_items was.consumer →
        now.is_settled ≡ was.is_settled → receiving turn (set ends s now) ≡ receiving turn ends
    receiving-same taken known settled =
        rw (
          map_set_same (λ (e : RingEnd M). consumer_ring e.consumer) ends s now was within read ring,
          map_set_same (λ (e : RingEnd M). received e.consumer) ends s now was within read taken,
          map_set_same (λ (e : RingEnd M). known_items e.consumer) ends s now was within read known,
          map_set_same (λ (e : RingEnd M). e.is_settled) ends s now was within read settled,
        )

    -- an end from which a message was taken
    pub receiving-take : (m : M) → now.is_settled ≡ was.is_settled → received now.consumer ≡ received was.consumer ++ m ∷ []
        → receiving turn (set ends s now) ≡ record (receiving turn ends) {
          taken = set (receiving turn ends).taken s (taken_at (receiving turn ends) s ++ m ∷ []);
          known = set
              (receiving turn ends).known s (known_at (receiving turn (set ends s now)) s);
        }
    receiving-take m settled taken =
        rw (
          known-now,
          taken-was,
          ← taken,
          map_set_same (λ (e : RingEnd M). consumer_ring e.consumer) ends s now was within read ring,
          map-set (λ (e : RingEnd M). received e.consumer) ends s now,
          map-set (λ (e : RingEnd M). known_items e.consumer) ends s now,
          map_set_same (λ (e : RingEnd M). e.is_settled) ends s now was within read settled,
        )

    -- an end whose receipt was settled
    pub receiving-settle : now.is_settled ≡ true → received now.consumer ≡ received was.consumer
        → receiving turn (set ends s now) ≡ after_settle (receiving turn ends) s (known_at (receiving turn (set ends s now)) s)
    receiving-settle settled taken =
        rw (
          known-now,
          map_set_same (λ (e : RingEnd M). consumer_ring e.consumer) ends s now was within read ring,
          map_set_same (λ (e : RingEnd M). received e.consumer) ends s now was within read taken,
          map-set (λ (e : RingEnd M). known_items e.consumer) ends s now,
          map-set (λ (e : RingEnd M). e.is_settled) ends s now,
          settled,
        )

    -- a take, when the senders from `from` to before `upto` were checked
    pub IsTakeAmong-from :
        (from upto : ℕ) (m : M) → now.is_settled ≡ was.is_settled → received now.consumer ≡ received was.consumer ++ m ∷ []
        → IsPrefix (known_items was.consumer) (m ∷ known_items now.consumer) →
        (was.is_settled ≡ true → known_items was.consumer ≡ m ∷ known_items now.consumer)
        → from ≤ s → s < upto → ((k : ℕ) → from ≤ k → k < s → known_at (receiving turn ends) k ≡ []) → IsTakeAmong from upto
        (receiving turn ends) s m (receiving turn (set ends s now))
    IsTakeAmong-from from upto m settled taken oldest all_known low high passed = record {
      known_sender = (low, high);
      taken = receiving-take m settled taken;
      oldest = rw (known-was, known-now) (IsPrefix-rest _ _ oldest);
      all_known = λ set. known-was ∙ all_known (sym settled-was ∙ set) ∙ ap (λ rest. m ∷ rest) (sym known-now);
      passed = passed;
    }

-- A take checks the senders from the turn on, and then those before the turn: for `Inlet::try_take`.
module _ {M : Type 0} (turn senders : ℕ) (before : List (RingEnd M)) (many : senders ≡ length before) where
  -- a message was found from the turn on
  pub IsTake-first :
      (after : List (RingEnd M)) (s : ℕ) (m : M) → IsTakeAmong turn senders (receiving 0 before) s m (receiving 0 after)
      → IsTake (receiving turn before) s m (receiving ((s + 1) % senders) after)
  IsTake-first after s m took = record {
    known_sender = rw (length-map, ← many) took.known_sender.1;
    taken = rw (length-map, ← many) (ap (λ (b : ReceivingEnd M). record b { turn = (s + 1) % senders }) took.taken);
    oldest = took.oldest;
    all_known = took.all_known;
    passed = λ k order.
        elim order [
          | inl later ↦ took.passed k later.0 later.1
          | inr wrapped ↦ absurd (omega (arith, wrapped.0, took.known_sender.0))
        ];
  }

  -- none was found from the turn on
  module _ (between : List (RingEnd M)) (same : receiving 0 between ≡ receiving 0 before)
      (none : (k : ℕ) → turn ≤ k → k < senders → known_at (receiving 0 before) k ≡ []) where
    none_from : (k : ℕ) → turn ≤ k → known_at (receiving 0 before) k ≡ []
    none_from k high = elim (cases_lt k senders) [
      | inl low ↦ none k high low
      | inr past ↦ get_or_past (receiving 0 before).known k [] (rw (length-map, ← many) past)
    ]

    -- a message was found before the turn
    pub IsTake-second :
        (after : List (RingEnd M)) (s : ℕ) (m : M) → turn ≤ senders → IsTakeAmong 0 turn (receiving 0 between) s m (receiving 0 after)
        → IsTake (receiving turn before) s m (receiving ((s + 1) % senders) after)
    IsTake-second after s m few found =
        let took = subst (λ b. IsTakeAmong 0 turn b s m (receiving 0 after)) same found in
        record {
          known_sender = rw (length-map, ← many) (omega (arith, took.known_sender.1));
          taken = rw (length-map, ← many) (ap (λ (b : ReceivingEnd M). record b { turn = (s + 1) % senders }) took.taken);
          oldest = took.oldest;
          all_known = took.all_known;
          passed = λ k order.
              elim order [
                | inl later ↦ absurd (omega (arith, later.0, later.1, took.known_sender.1))
                | inr wrapped ↦ elim wrapped.1 [
                  | inl high ↦ none_from k high
                  | inr low ↦ took.passed k (omega arith) low
                ]
              ];
        }

    -- none was found
    pub NothingKnown-both :
        ((k : ℕ) → 0 ≤ k → k < turn → known_at (receiving 0 between) k ≡ []) → NothingKnown (receiving turn before)
    NothingKnown-both first s = elim (cases_lt s turn) [
      | inl low ↦ ap (λ b. known_at b s) (sym same) ∙ first s (omega arith) low
      | inr high ↦ none_from s high
    ]
