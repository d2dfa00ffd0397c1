-- A mailbox that a history left, and one more step: for `in_turn`, `lawful` and `left` of `run_steps`, by way of
-- Runs.antt. `Keeps-step` goes through the tests of the reply in their order. A rejected step records no event. For the
-- others there is one lemma each, `Keeps-sends`, `Keeps-takes` and `Keeps-closes`, about the step's sender and all others.
use Rattle.std.proofs.Math.Bool.{or-false}
use Rattle.std.proofs.Common.{◌≡◌, ℕ, ◌≢◌, ◌+◌, ◌%◌, ◌<◌, ◌≤◌, Bool, true, false, cond, ◌||◌, eqb, ltb, List, [], ◌∷◌, ◌++◌, length, drop, set, get_or, replicate, Option, None, Some, refl, sym, ap, ◌∙◌, inl, inr, ⊎_elim, subst, arith}
use Rattle.std.proofs.lemmas.Bool.Decides.{nat_tests}
use Rattle.std.specs.List.{list_all, list_any, slice_get, range_with_len}
use Rattle.std.proofs.lemmas.List.{append-nil, length-append, length-set, length-replicate, get_or-replicate, get_or_past, set-get_or, set_past}
use Rattle.std.proofs.lemmas.Bool.{cases_lt, cases_Bool, or_right, cond_both, ltb-true, ltb-false, eqb-true, eqb-false, both_ways, ne_eqb}
use Rattle.plan_mailbox.specs.declared.replies.Step.{Step}
use Rattle.plan_mailbox.specs.declared.replies.Step.TheVariants.{Send, Take, Close}
use Rattle.plan_mailbox.specs.declared.replies.Reply.{Reply}
use Rattle.plan_mailbox.specs.declared.replies.Reply.TheVariants.{Sent, Full, Closed, NoSender, Took, Shut, AlreadyShut, Unknown}
use Rattle.plan_mailbox.specs.Turn.{in_turn, line_of}
use Rattle.plan_mailbox.specs.History.{Event, Sends, Takes, Closes, is_send, sent_of, taken_of, waiting_of, was_closed, turn_of, IsPrefix, IsLawful, event_of}
use Rattle.plan_mailbox.specs.Reply.{taking, reply_after}
use Rattle.plan_mailbox.specs.Mailbox.{Mailbox, senders_of, waiting_at, is_closed_at, sending, next_of, taking_from, after_close, reply_of, after, new_mailbox, IsLeftBy}
use Rattle.plan_mailbox.proofs.Lines.{line_of-same, first_in_line}
use Rattle.plan_mailbox.proofs.Places.{all_by_places, get_or-set}
use Rattle.plan_mailbox.proofs.Histories.{any_send-push, was_closed-push, Leaves-sends, Leaves-takes, Leaves-takes_other, Leaves-closes, IsLawful-nil, IsLawful-push, in_order-whole, roomy-whole, turn_of-takes, turn_of-other}

-- the mailbox replies what the definition by histories says
pub reply_of-left :
    {M : Type 0} (senders room : ℕ) (h : List (Event M)) (b : Mailbox M) → IsLeftBy senders room h b → (step : Step M) →
    reply_of b step ≡ reply_after senders room h step
reply_of-left senders room h b l (Send s m) =
    let e1 = l.senders_stay in let e2 = l.closed_is s in let e3 = l.waits s in let e4 = l.room_stays in cc
reply_of-left senders room h b l Take =
    let line : line_of (waiting_at b) (in_turn (senders_of b) b.turn) ≡ line_of (waiting_of h) (in_turn senders (turn_of senders h)) =
    line_of-same (waiting_at b) (waiting_of h) l.waits (in_turn (senders_of b) b.turn)
    ∙ ap (λ n. line_of (waiting_of h) (in_turn n b.turn)) l.senders_stay ∙ ap (λ t. line_of (waiting_of h) (in_turn senders t)) l.turn_is in
    let all : list_all (λ x. x) b.closed ≡ list_all (was_closed h) (range_with_len 0 senders) =
    all_by_places b.closed (was_closed h) 0 (λ k. l.closed_is k ∙ ap (was_closed h) (omega arith)) ∙ ap
    (λ n. list_all (was_closed h) (range_with_len 0 n)) l.marks_stay in
    ap (λ xs. taking (slice_get xs 0) (list_all (λ x. x) b.closed)) line ∙ ap
    (taking (slice_get (line_of (waiting_of h) (in_turn senders (turn_of senders h))) 0)) all
reply_of-left senders room h b l (Close s) =
    let e1 = l.senders_stay in let e2 = l.closed_is s in cc

-- the mailbox that a history leaves, if the history is lawful
pub record Keeps {M : Type 0} (senders room : ℕ) (h : List (Event M)) (b : Mailbox M) : Type 0 where
  pub lawful : IsLawful senders room h
  pub left : IsLeftBy senders room h b

-- no event happened
Keeps-same : {M : Type 0} (senders room : ℕ) (h : List (Event M)) (b : Mailbox M) → Keeps senders room h b → Keeps senders room (h ++ []) b
Keeps-same senders room h b k = rw (append-nil h) k

or_cond : (x y : Bool) → (x || y) ≡ cond y true x
or_cond x y = grind (arith, nat_tests)

-- a message is sent
Keeps-sends :
    {M : Type 0} (senders room : ℕ) (h : List (Event M)) (b : Mailbox M) (s : ℕ) (m : M) → Keeps senders room h b → s < senders →
    was_closed h s ≡ false → eqb (length (waiting_of h s)) room ≡ false
    → Keeps senders room (h ++ Sends s m ∷ []) (sending b s m Sent)
Keeps-sends senders room h b s m k known open' fits =
    let l = k.left in
    let leaves = λ (t : ℕ). Leaves-sends h s m t (in_order-whole senders room h k.lawful t) in
    let within : s < length b.waiting = omega (arith, l.senders_stay) in
    record {
      lawful = IsLawful-push senders room h (Sends s m) k.lawful record {
        in_order = λ t. (leaves t).in_order;
        roomy = λ t. rw (leaves t).waits (
            elim (cases_Bool (eqb s t)) [
              | inl e ↦ rw e (
                  let same = eqb-true s t e in
                  let less : length (waiting_of h t) ≢ room = subst (λ u. length (waiting_of h u) ≢ room) same (eqb-false _ _ fits) in
                  omega (arith, length-append (waiting_of h t) (m ∷ []), roomy-whole senders room h k.lawful t))
              | inr e ↦ rw (e, append-nil (waiting_of h t)) (roomy-whole senders room h k.lawful t)
            ]);
        closed_once = λ t closed. refl;
        closed = λ t closed. cond_both (eqb s t) (m ∷ []) [] (λ r. r ≡ [])
            (λ e. absurd (both_ways _ open' (ap (was_closed h) (eqb-true s t e) ∙ closed))) (λ _. refl);
        known = known;
      };
      left = record {
        senders_stay = length-set b.waiting s _ ∙ l.senders_stay;
        marks_stay = l.marks_stay;
        room_stays = l.room_stays;
        waits = λ t. get_or-set b.waiting s (waiting_at b s ++ m ∷ []) t [] within ∙ sym ((leaves t).waits ∙
            elim (cases_Bool (eqb s t)) as (λ _. waiting_of h t ++ cond (eqb s t) (m ∷ []) [] ≡ cond (eqb s t)
            (waiting_at b s ++ m ∷ []) (waiting_at b t)) [
              | inl e ↦ rw e (ap (λ ws. ws ++ m ∷ []) (sym (l.waits s ∙ ap (waiting_of h) (eqb-true s t e))))
              | inr e ↦ rw e (append-nil (waiting_of h t) ∙ sym (l.waits t))
            ]);
        closed_is = λ t. l.closed_is t ∙ sym (was_closed-push h (Sends s m) t ∙ or-false (was_closed h t));
        turn_is = l.turn_is ∙ sym (turn_of-other senders h (Sends s m) refl);
        sent_is = sym (any_send-push h (Sends s m) ∙ or_right (list_any is_send h) true refl);
      };
    }

-- a message is taken
Keeps-takes :
    {M : Type 0} (senders room : ℕ) (h : List (Event M)) (b : Mailbox M) (s : ℕ) (m : M) (rest : List M) → Keeps senders room h b →
    s < senders → waiting_of h s ≡ m ∷ rest
    → Keeps senders room (h ++ Takes s m ∷ []) (taking_from b (Took s m))
Keeps-takes senders room h b s m rest k known w =
    let l = k.left in
    let within : s < length b.waiting = omega (arith, l.senders_stay) in
    let taken = Leaves-takes h s m rest w (in_order-whole senders room h k.lawful s) in
    let others = λ (t : ℕ) (e : eqb s t ≡ false). Leaves-takes_other h s m t e (in_order-whole senders room h k.lawful t) in
    record {
      lawful = IsLawful-push senders room h (Takes s m) k.lawful record {
        in_order = λ t. elim (cases_Bool (eqb s t)) [
          | inl e ↦ subst (λ u. IsPrefix (taken_of (h ++ Takes s m ∷ []) u) (sent_of (h ++ Takes s m ∷ []) u))
              (eqb-true s t e) taken.in_order
          | inr e ↦ (others t e).in_order
        ];
        roomy = λ t. elim (cases_Bool (eqb s t)) [
          | inl e ↦ subst (λ u. length (waiting_of (h ++ Takes s m ∷ []) u) ≤ room) (eqb-true s t e)
              (rw taken.waits (omega (arith, ap length w, roomy-whole senders room h k.lawful s)))
          | inr e ↦ rw (others t e).waits (roomy-whole senders room h k.lawful t)
        ];
        closed_once = λ t closed. refl;
        closed = λ t closed. refl;
        known = known;
      };
      left = record {
        senders_stay = length-set b.waiting s _ ∙ l.senders_stay;
        marks_stay = l.marks_stay;
        room_stays = l.room_stays;
        waits = λ t. get_or-set b.waiting s (drop 1 (waiting_at b s)) t [] within ∙
            elim (cases_Bool (eqb s t)) as (λ _. cond (eqb s t) (drop 1 (waiting_at b s)) (waiting_at b t) ≡ waiting_of
            (h ++ Takes s m ∷ []) t) [
              | inl e ↦ rw e (ap (drop 1) (l.waits s ∙ w) ∙ sym taken.waits ∙ ap (waiting_of (h ++ Takes s m ∷ [])) (eqb-true s t e))
              | inr e ↦ rw e (l.waits t ∙ sym (others t e).waits)
            ];
        closed_is = λ t. l.closed_is t ∙ sym (was_closed-push h (Takes s m) t ∙ or-false (was_closed h t));
        turn_is = ap (λ n. (s + 1) % n) l.senders_stay ∙ sym (turn_of-takes senders h s m);
        sent_is = l.sent_is ∙ sym (any_send-push h (Takes s m) ∙ or-false (list_any is_send h));
      };
    }

-- a sender is closed
Keeps-closes :
    {M : Type 0} (senders room : ℕ) (h : List (Event M)) (b : Mailbox M) (s : ℕ) → Keeps senders room h b → s < senders →
    was_closed h s ≡ false
    → Keeps senders room (h ++ Closes s ∷ []) (after_close b s)
Keeps-closes senders room h b s k known open' =
    let l = k.left in
    let leaves = λ (t : ℕ). Leaves-closes h s t (in_order-whole senders room h k.lawful t) in
    let within : s < length b.closed = omega (arith, l.marks_stay) in
    record {
      lawful = IsLawful-push senders room h (Closes s) k.lawful record {
        in_order = λ t. (leaves t).in_order;
        roomy = λ t. rw (leaves t).waits (roomy-whole senders room h k.lawful t);
        closed_once = λ t closed. ne_eqb s t (λ e. both_ways _ open' (ap (was_closed h) e ∙ closed));
        closed = λ t closed. refl;
        known = known;
      };
      left = record {
        senders_stay = l.senders_stay;
        marks_stay = length-set b.closed s true ∙ l.marks_stay;
        room_stays = l.room_stays;
        waits = λ t. l.waits t ∙ sym (leaves t).waits;
        closed_is = λ t. get_or-set b.closed s true t false within ∙ sym
            (was_closed-push h (Closes s) t ∙ ap (λ c. c || eqb s t) (sym (l.closed_is t)) ∙ or_cond (is_closed_at b t) (eqb s t));
        turn_is = l.turn_is ∙ sym (turn_of-other senders h (Closes s) refl);
        sent_is = l.sent_is ∙ sym (any_send-push h (Closes s) ∙ or-false (list_any is_send h));
      };
    }

-- a step and its reply continue the history, whatever they are
Keeps-take :
    {M : Type 0} (senders room : ℕ) (h : List (Event M)) (b : Mailbox M) (found : Option (ℕ × M)) (all : Bool) → next_of b ≡ found →
    Keeps senders room h b
    → Keeps senders room (h ++ event_of Take (taking found all)) (taking_from b (taking found all))
Keeps-take senders room h b None true e k = Keeps-same senders room h b k
Keeps-take senders room h b None false e k = Keeps-same senders room h b k
Keeps-take senders room h b (Some next) all e k =
    let first = first_in_line (waiting_at b) (in_turn (senders_of b) b.turn) next e in
    let known : next.0 < senders_of b =
    ⊎_elim (λ (lt : next.0 < senders_of b). lt)
    (λ (ge : senders_of b ≤ next.0). let none = get_or_past b.waiting next.0 [] ge in absurd
    (omega (arith, ap length (sym none ∙ first.1)))) (cases_lt next.0 (senders_of b)) in
    Keeps-takes senders room h b next.0 next.1 first.0 k (omega (arith, k.left.senders_stay)) (sym (k.left.waits next.0) ∙ first.1)

pub Keeps-step :
    {M : Type 0} (senders room : ℕ) (h : List (Event M)) (b : Mailbox M) (step : Step M) → Keeps senders room h b →
    Keeps senders room (h ++ event_of step (reply_of b step)) (after b step)
Keeps-step {M} senders room h b (Send s m) k =
    let P : Reply M → Type 0 = λ r. Keeps senders room (h ++ event_of (Send s m) r) (sending b s m r) in
    let same = Keeps-same senders room h b k in
    let l = k.left in
    cond_both (ltb s (senders_of b)) (cond (is_closed_at b s) (Closed m) (cond (eqb (length (waiting_at b s)) b.room) (Full m) Sent))
    (NoSender m) P
    (λ known. cond_both (is_closed_at b s) (Closed m) (cond (eqb (length (waiting_at b s)) b.room) (Full m) Sent) P (λ _. same)
    (λ open'. cond_both (eqb (length (waiting_at b s)) b.room) (Full m) Sent P (λ _. same)
    (λ fits. Keeps-sends senders room h b s m k (let lt = ltb-true s (senders_of b) known in omega (arith, l.senders_stay))
    (sym (l.closed_is s) ∙ open')
    (ap (λ ws. eqb (length ws) room) (sym (l.waits s)) ∙ ap (eqb (length (waiting_at b s))) (sym l.room_stays) ∙ fits))))
    (λ _. same)
Keeps-step senders room h b Take k = Keeps-take senders room h b (next_of b) (list_all (λ x. x) b.closed) refl k
Keeps-step {M} senders room h b (Close s) k =
    let P : Reply M → Type 0 = λ r. Keeps senders room (h ++ event_of (Close s) r) (after_close b s) in
    let l = k.left in
    let same = λ (e : set b.closed s true ≡ b.closed). subst (λ marks. Keeps senders room (h ++ []) (record b { closed = marks })) (sym e)
    (Keeps-same senders room h b k) in
    cond_both (ltb s (senders_of b)) (cond (is_closed_at b s) AlreadyShut Shut) Unknown P
    (λ known. cond_both (is_closed_at b s) AlreadyShut Shut P
    (λ closed. same (ap (set b.closed s) (sym closed) ∙ set-get_or b.closed s false))
    (λ open'. Keeps-closes senders room h b s k (let lt = ltb-true s (senders_of b) known in omega (arith, l.senders_stay))
    (sym (l.closed_is s) ∙ open')))
    (λ past. same (set_past b.closed s true (let ge = ltb-false s (senders_of b) past in omega (arith, l.senders_stay, l.marks_stay))))

-- a new mailbox is what a history without events leaves
get_or-replicate_same : {A : Type 0} (n k : ℕ) (x : A) → get_or (replicate n x) k x ≡ x
get_or-replicate_same n k x = grind (arith, nat_tests, get_or-replicate, get_or_past, length-replicate, cases_lt)

pub Keeps-new : {M : Type 0} (senders room : ℕ) → Keeps {M = M} senders room [] (new_mailbox senders room)
Keeps-new senders room = grind (arith, nat_tests, IsLawful-nil, length-replicate, get_or-replicate_same)
