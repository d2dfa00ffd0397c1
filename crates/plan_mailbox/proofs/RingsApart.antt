-- A mailbox of rings that is split: for `outlets`, `room` and `inlet` of `Rings::split`, and for its loop. By induction
-- over the lanes. Nothing was sent on an unused lane. So by its `fifo` nothing was received and nothing is known to wait,
-- and by its `all_free` all its places are known to be free.
use Rattle.std.proofs.Common.{◌≡◌, ℕ, ◌+◌, All, List, [], ◌∷◌, ◌++◌, length, map, replicate, false, refl, sym, ap, ◌∙◌, add-zero, arith}
use Rattle.std.specs.List.{enumerate_from}
use Rattle.std.proofs.lemmas.List.{length-append, length-map, nil_from_length}
use Rattle.std.proofs.lemmas.List.Elements.{All-nil, All-cons, All-head, All-tail, All-same}
use Rattle.rtrb.specs.Ring.{sent, received, known_free, known_items, producer_capacity}
use Rattle.plan_mailbox.specs.declared.rings.RingLane.{RingLane}
use Rattle.plan_mailbox.specs.declared.outlet.Outlet.{Outlet}
use Rattle.plan_mailbox.specs.declared.ring_end.RingEnd.{RingEnd}
use Rattle.plan_mailbox.specs.Ends.{Ring, SendingEnd, consumer_ring, free_of, producer_ring, receiving, new_inlet, new_outlets}
use Rattle.std.proofs.lemmas.Bool.Decides.{nat_tests}
use Rattle.std.proofs.lemmas.Grind.{common_steps}

-- the numbers of a list with one more element
pub enumerate_from-push :
    {A : Type 0} (n : ℕ) (xs : List A) (x : A) → enumerate_from n (xs ++ x ∷ []) ≡ enumerate_from n xs ++ (n + length xs, x) ∷ []
enumerate_from-push n [] x = ap (λ k. (k, x) ∷ []) (sym (add-zero n))
enumerate_from-push n (y ∷ xs) x = grind (arith, nat_tests, common_steps, enumerate_from-push (n + 1) xs x)

module _ {M : Type 0} where
  -- the ring of a lane
  abbrev pub ring_in : RingLane M → Ring
  ring_in lane = producer_ring lane.producer

  -- a lane on which nothing was sent
  abbrev pub IsUnused : RingLane M → Type 0
  IsUnused lane = length (sent lane.producer) ≡ 0

  -- the outlet of a lane, with its number
  abbrev pub outlet_from : ℕ × RingLane M → SendingEnd M
  outlet_from p = record { sender = p.0; ring = ring_in p.1; sent = sent p.1.producer }

  -- the receiving end of a lane
  abbrev pub end_from : RingLane M → RingEnd M
  end_from lane = record { consumer = lane.consumer; is_settled = false }

  nothing_received : (lane : RingLane M) → IsUnused lane → received lane.consumer ≡ []
  nothing_received lane unused = nil_from_length _
      (omega (arith, unused, ap length lane.fifo, length-append (received lane.consumer) (known_items lane.consumer)))

  nothing_known : (lane : RingLane M) → IsUnused lane → known_items lane.consumer ≡ []
  nothing_known lane unused = nil_from_length _
      (omega (arith, unused, ap length lane.fifo, length-append (received lane.consumer) (known_items lane.consumer)))

  one_ring : (lane : RingLane M) → consumer_ring lane.consumer ≡ ring_in lane
  one_ring lane = rw (lane.pair.0, lane.pair.1, lane.pair.2, lane.pair.3)

  rings-apart : (lanes : List (RingLane M)) → map (λ (e : RingEnd M). consumer_ring e.consumer) (map end_from lanes) ≡ map ring_in lanes
  rings-apart [] = refl
  rings-apart (lane ∷ lanes) = ap (λ ring. ring ∷ map (λ (e : RingEnd M). consumer_ring e.consumer) (map end_from lanes))
      (one_ring lane) ∙ ap (λ rings. ring_in lane ∷ rings) (rings-apart lanes)

  -- what each receiving end of an unused lane has
  each-apart :
      {B : Type 0} (f : RingEnd M → B) (y : B) → ((lane : RingLane M) → IsUnused lane → f (end_from lane) ≡ y) →
      (lanes : List (RingLane M)) → All IsUnused lanes → map f (map end_from lanes) ≡ replicate (length lanes) y
  each-apart f y same [] unused = refl
  each-apart f y same (lane ∷ lanes) unused =
      ap (λ x. x ∷ map f (map end_from lanes)) (same lane (All-head IsUnused lane lanes unused))
      ∙ ap (λ ys. y ∷ ys) (each-apart f y same lanes (All-tail IsUnused lane lanes unused))

  -- how many places the sending end of a lane knows to be free
  abbrev pub free_in : RingLane M → ℕ
  free_in lane = known_free lane.producer

  lanes-free :
      (lanes : List (RingLane M)) (room : ℕ) → All IsUnused lanes →
      All (λ (lane : RingLane M). producer_capacity lane.producer ≡ room) lanes → All (λ n. n ≡ room) (map free_in lanes)
  lanes-free [] room unused reserved = All-nil (λ n. n ≡ room)
  lanes-free (lane ∷ lanes) room unused reserved =
      All-cons (λ n. n ≡ room) (free_in lane) (map free_in lanes)
      (lane.all_free (nil_from_length _ (All-head IsUnused lane lanes unused)) ∙ All-head
      (λ (l : RingLane M). producer_capacity l.producer ≡ room) lane lanes reserved)
      (lanes-free lanes room (All-tail IsUnused lane lanes unused)
      (All-tail (λ (l : RingLane M). producer_capacity l.producer ≡ room) lane lanes reserved))

  outlets-free :
      (outlets : List (Outlet M)) (room : ℕ) → All (λ n. n ≡ room) (map free_of outlets) →
      All (λ (outlet : Outlet M). free_of outlet ≡ room) outlets
  outlets-free [] room free = All-nil (λ (outlet : Outlet M). free_of outlet ≡ room)
  outlets-free (outlet ∷ outlets) room free =
      All-cons (λ (o : Outlet M). free_of o ≡ room) outlet outlets
      (All-head (λ n. n ≡ room) (free_of outlet) (map free_of outlets) free)
      (outlets-free outlets room (All-tail (λ n. n ≡ room) (free_of outlet) (map free_of outlets) free))

  -- each outlet of an unused lane knows that all places of its ring are free
  pub free-apart :
      (lanes : List (RingLane M)) (outlets : List (Outlet M)) (room : ℕ) → map free_of outlets ≡ map free_in lanes →
      All IsUnused lanes → All (λ (lane : RingLane M). producer_capacity lane.producer ≡ room) lanes
      → All (λ (outlet : Outlet M). free_of outlet ≡ room) outlets
  free-apart lanes outlets room same unused reserved = outlets-free outlets room
      (All-same (λ n. n ≡ room) (map free_of outlets) (map free_in lanes) same (lanes-free lanes room unused reserved))

  -- the receiving ends of unused lanes make a new inlet
  pub inlet-apart : (lanes : List (RingLane M)) → All IsUnused lanes → receiving 0 (map end_from lanes) ≡ new_inlet (map ring_in lanes)
  inlet-apart lanes unused = rw (
    rings-apart lanes,
    each-apart (λ e. received e.consumer) [] nothing_received lanes unused,
    each-apart (λ e. known_items e.consumer) [] nothing_known lanes unused,
    each-apart (λ e. e.is_settled) false (λ lane unused. refl) lanes unused,
    length-map lanes ring_in,
  )

  -- the sending ends of unused lanes make new outlets
  outlets-from :
      (n : ℕ) (lanes : List (RingLane M)) → All IsUnused lanes →
      map outlet_from (enumerate_from n lanes) ≡ map (λ p. record { sender = p.0; ring = p.1; sent = [] })
      (enumerate_from n (map ring_in lanes))
  outlets-from n [] unused = refl
  outlets-from n (lane ∷ lanes) unused =
      ap (λ sent. record { sender = n; ring = ring_in lane; sent = sent } ∷ map outlet_from (enumerate_from (n + 1) lanes))
      (nil_from_length _ (All-head IsUnused lane lanes unused))
      ∙ ap (λ outlets. record { sender = n; ring = ring_in lane; sent = [] } ∷ outlets)
      (outlets-from (n + 1) lanes (All-tail IsUnused lane lanes unused))

  pub outlets-apart :
      (lanes : List (RingLane M)) → All IsUnused lanes → map outlet_from (enumerate_from 0 lanes) ≡ new_outlets (map ring_in lanes)
  outlets-apart lanes unused = outlets-from 0 lanes unused
