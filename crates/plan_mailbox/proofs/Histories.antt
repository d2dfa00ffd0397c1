-- A history with one more event: for Steps.antt. `in_order-whole` is also for `prefix` of `takes_what_was_sent`. The
-- longer history at any time is the shorter one at that time, or the whole. So `IsLawful-push` needs only what
-- `IsAllowed` says of the whole. For the waiting messages, `Leaves-push` cuts what was sent after what was taken.
use Rattle.std.proofs.Math.Bool.{or-false}
use Rattle.std.proofs.Common.{◌≡◌, ℕ, ◌+◌, ◌%◌, ◌<◌, ◌≤◌, true, false, cond, ◌||◌, eqb, List, [], ◌∷◌, ◌++◌, length, take, drop, refl, sym, ap, ◌∙◌, inl, inr, ⊎_elim, subst, arith, add-zero, zero-add}
use Rattle.std.proofs.lemmas.Bool.Decides.{nat_tests}
use Rattle.std.specs.Prelude.{flat_map, count_by}
use Rattle.std.specs.List.{list_any}
use Rattle.std.proofs.lemmas.List.{append-nil, append_assoc, take_all, take-append-le, drop-append-le, drop_all, length-append, take-append-drop}
use Rattle.std.proofs.lemmas.List.Concat.{flat_map-append}
use Rattle.std.proofs.lemmas.List.Folds.{list_any-append}
use Rattle.std.proofs.lemmas.List.Sums.{sum_by-append, sum_by-cons}
use Rattle.std.proofs.lemmas.List.Elements.{All-append, All-cons, All-nil}
use Rattle.std.proofs.lemmas.List.Prefix.{front_rest}
use Rattle.std.proofs.lemmas.Bool.{cases_lt, cases_Bool, or_left, or_parts, eq-eqb, cond_both}
use Rattle.plan_mailbox.specs.History.{Event, Sends, Takes, Closes, sent_by, taken_by, closes, is_send, giver_of, sender_of, sent_of, taken_of, waiting_of, was_closed, turn_of, IsPrefix, IsLawful}
use Rattle.plan_mailbox.proofs.Places.{last_or_push}
use Rattle.std.proofs.lemmas.Grind.{common_steps}

-- a list that is mapped and flattened, with one more element
flat_map_push : {X A : Type 0} (f : X → List A) (xs : List X) (x : X) → flat_map f (xs ++ x ∷ []) ≡ flat_map f xs ++ f x
flat_map_push f xs x = flat_map-append f xs (x ∷ []) ∙ ap (λ r. flat_map f xs ++ r) (append-nil (f x))

-- what a history with one more event says about a sender
pub was_closed-push : {M : Type 0} (h : List (Event M)) (e : Event M) (s : ℕ) → was_closed (h ++ e ∷ []) s ≡ (was_closed h s || closes s e)
was_closed-push h e s = list_any-append (closes s) h (e ∷ []) ∙ ap (λ b. was_closed h s || b) (or-false (closes s e))

pub any_send-push : {M : Type 0} (h : List (Event M)) (e : Event M) → list_any is_send (h ++ e ∷ []) ≡ (list_any is_send h || is_send e)
any_send-push h e = list_any-append is_send h (e ∷ []) ∙ ap (λ b. list_any is_send h || b) (or-false (is_send e))

pub sent_of-push : {M : Type 0} (h : List (Event M)) (e : Event M) (s : ℕ) → sent_of (h ++ e ∷ []) s ≡ sent_of h s ++ sent_by s e
sent_of-push h e s = flat_map_push (sent_by s) h e

pub taken_of-push : {M : Type 0} (h : List (Event M)) (e : Event M) (s : ℕ) → taken_of (h ++ e ∷ []) s ≡ taken_of h s ++ taken_by s e
taken_of-push h e s = flat_map_push (taken_by s) h e

-- a list is a prefix of itself with anything appended, and the waiting messages are what was appended
pub IsPrefix-from : {M : Type 0} (xs ys zs : List M) → ys ≡ xs ++ zs → IsPrefix xs ys
IsPrefix-from xs ys zs e = e ∙ ap (λ r. xs ++ r) (sym (front_rest ys xs zs e))

pub waiting_of-from : {M : Type 0} (h : List (Event M)) (s : ℕ) (zs : List M) → sent_of h s ≡ taken_of h s ++ zs → waiting_of h s ≡ zs
waiting_of-from h s zs e = front_rest (sent_of h s) (taken_of h s) zs e

-- a sender sent what was taken from it, and then these messages, which wait
pub record Leaves {M : Type 0} (h : List (Event M)) (s : ℕ) (zs : List M) : Type 0 where
  pub in_order : IsPrefix (taken_of h s) (sent_of h s)
  pub waits : waiting_of h s ≡ zs

Leaves-from : {M : Type 0} (h : List (Event M)) (s : ℕ) (zs : List M) → sent_of h s ≡ taken_of h s ++ zs → Leaves h s zs
Leaves-from h s zs e = record { in_order = IsPrefix-from (taken_of h s) (sent_of h s) zs e; waits = waiting_of-from h s zs e }

-- one more event, by what it adds to what was sent and taken
Leaves-push :
    {M : Type 0} (h : List (Event M)) (e : Event M) (s : ℕ) (zs : List M) →
    sent_of h s ++ sent_by s e ≡ taken_of h s ++ taken_by s e ++ zs → Leaves (h ++ e ∷ []) s zs
Leaves-push h e s zs eq = Leaves-from (h ++ e ∷ []) s zs (sent_of-push h e s ∙ eq ∙ ap (λ r. r ++ zs) (sym (taken_of-push h e s)))

pub Leaves-sends :
    {M : Type 0} (h : List (Event M)) (t : ℕ) (m : M) (s : ℕ) → IsPrefix (taken_of h s) (sent_of h s) →
    Leaves (h ++ Sends t m ∷ []) s (waiting_of h s ++ sent_by s (Sends t m))
Leaves-sends h t m s p = grind (arith, nat_tests, common_steps, Leaves-push, append_assoc, append-nil)

pub Leaves-takes_other :
    {M : Type 0} (h : List (Event M)) (t : ℕ) (m : M) (s : ℕ) → eqb t s ≡ false → IsPrefix (taken_of h s) (sent_of h s) →
    Leaves (h ++ Takes t m ∷ []) s (waiting_of h s)
Leaves-takes_other h t m s ne p = grind (arith, nat_tests, common_steps, Leaves-push, append-nil)

pub Leaves-takes :
    {M : Type 0} (h : List (Event M)) (s : ℕ) (m : M) (rest : List M) → waiting_of h s ≡ m ∷ rest →
    IsPrefix (taken_of h s) (sent_of h s) → Leaves (h ++ Takes s m ∷ []) s rest
Leaves-takes h s m rest w p = Leaves-push h (Takes s m) s _
    (append-nil (sent_of h s) ∙ p ∙ ap (λ r. taken_of h s ++ r) w ∙ sym (append_assoc (taken_of h s) (m ∷ []) rest)
    ∙ ap (λ b. taken_of h s ++ cond b (m ∷ []) [] ++ rest) (sym (eq-eqb s s refl)))

pub Leaves-closes :
    {M : Type 0} (h : List (Event M)) (t s : ℕ) → IsPrefix (taken_of h s) (sent_of h s) →
    Leaves (h ++ Closes t ∷ []) s (waiting_of h s)
Leaves-closes h t s p = grind (arith, nat_tests, common_steps, Leaves-push, append-nil)

-- a sender that was not closed was closed zero times
count_of_none : {M : Type 0} (h : List (Event M)) (s : ℕ) → was_closed h s ≡ false → count_by (closes s) h ≡ 0
count_of_none [] s none = refl
count_of_none (e ∷ h) s none =
    let parts = or_parts (closes s e) (was_closed h s) none in
    sum_by-cons (λ x. cond (closes s x) 1 0) e h ∙ ap (λ b. cond b 1 0 + count_by (closes s) h) parts.0 ∙ zero-add
    (count_by (closes s) h) ∙ count_of_none h s parts.1

count_by-push :
    {M : Type 0} (h : List (Event M)) (e : Event M) (s : ℕ) →
    count_by (closes s) (h ++ e ∷ []) ≡ count_by (closes s) h + cond (closes s e) 1 0
count_by-push h e s = grind (arith, nat_tests, sum_by-append, sum_by-cons, add-zero)

-- the history with one more event, at any time, is the history without it at that time, or the whole
moment_before :
    {M : Type 0} (h : List (Event M)) (e : Event M) (P : List (Event M) → Type 0) → ((k : ℕ) → P (take k h)) → P (h ++ e ∷ []) →
    (k : ℕ) → P (take k (h ++ e ∷ []))
moment_before h e P before whole k = grind (arith, nat_tests, take-append-le, take_all, length-append, cases_lt)

-- the conditions for one more event
pub record IsAllowed {M : Type 0} (senders room : ℕ) (h : List (Event M)) (e : Event M) : Type 0 where
  pub in_order : (s : ℕ) → IsPrefix (taken_of (h ++ e ∷ []) s) (sent_of (h ++ e ∷ []) s)
  pub roomy : (s : ℕ) → length (waiting_of (h ++ e ∷ []) s) ≤ room
  pub closed_once : (s : ℕ) → was_closed h s ≡ true → closes s e ≡ false
  pub closed : (s : ℕ) → was_closed h s ≡ true → sent_by s e ≡ []
  pub known : sender_of e < senders

pub IsLawful-nil : {M : Type 0} (senders room : ℕ) → IsLawful {M = M} senders room []
IsLawful-nil senders room = grind (arith, nat_tests)

-- a sender that was closed at some time was closed
was_closed-take : {M : Type 0} (h : List (Event M)) (k s : ℕ) → was_closed (take k h) s ≡ true → was_closed h s ≡ true
was_closed-take h k s closed =
    ap (λ p. was_closed p s) (sym (take-append-drop k h)) ∙ list_any-append (closes s) (take k h) (drop k h) ∙ or_left
    (was_closed (take k h) s) (was_closed (drop k h) s) closed

pub IsLawful-push :
    {M : Type 0} (senders room : ℕ) (h : List (Event M)) (e : Event M) → IsLawful senders room h → IsAllowed senders room h e →
    IsLawful senders room (h ++ e ∷ [])
IsLawful-push senders room h e l a = record {
  in_order = λ k s. moment_before h e (λ p. IsPrefix (taken_of p s) (sent_of p s)) (λ j. l.in_order j s) (a.in_order s) k;
  roomy = λ k s. moment_before h e (λ p. length (waiting_of p s) ≤ room) (λ j. l.roomy j s) (a.roomy s) k;
  closed_once = λ s. rw (count_by-push h e s) (
      elim (cases_Bool (was_closed h s)) [
        | inl closed ↦ let e0 = ap (λ b. cond {A = ℕ} b 1 0) (a.closed_once s closed) in omega (arith, l.closed_once s)
        | inr open' ↦ let none = count_of_none h s open' in cond_both (closes s e) 1 0 (λ n. count_by (closes s) h + n ≤ 1)
            (λ _. omega arith) (λ _. omega arith)
      ]);
  closed = λ k s.
      ⊎_elim (λ (lt : k < length h + 1). λ closed.
      let le : k ≤ length h = omega arith in
      let before : was_closed (take k h) s ≡ true = ap (λ p. was_closed p s) (sym (take-append-le k h (e ∷ []) le)) ∙ closed in
      ap (λ p. sent_of p s) (drop-append-le k h (e ∷ []) le) ∙ sent_of-push (drop k h) e s ∙ ap (λ r. r ++ sent_by s e)
      (l.closed k s before) ∙ a.closed s (was_closed-take h k s before))
      (λ (ge : length h + 1 ≤ k). λ closed. ap (λ p. sent_of p s) (drop_all k (h ++ e ∷ []) (omega (arith, length-append h (e ∷ [])))))
      (cases_lt k (length h + 1));
  known = All-append (λ x. sender_of x < senders) h (e ∷ []) l.known
      (All-cons (λ x. sender_of x < senders) e [] a.known (All-nil (λ x. sender_of x < senders)));
}

-- the whole history is the history at one time
pub in_order-whole :
    {M : Type 0} (senders room : ℕ) (h : List (Event M)) → IsLawful senders room h → (s : ℕ) → IsPrefix (taken_of h s) (sent_of h s)
in_order-whole senders room h l s = subst (λ p. IsPrefix (taken_of p s) (sent_of p s)) (take_all (length h) h (omega arith))
    (l.in_order (length h) s)

pub roomy-whole : {M : Type 0} (senders room : ℕ) (h : List (Event M)) → IsLawful senders room h → (s : ℕ) → length (waiting_of h s) ≤ room
roomy-whole senders room h l s = subst (λ p. length (waiting_of p s) ≤ room) (take_all (length h) h (omega arith)) (l.roomy (length h) s)

-- the turn after one more event
pub turn_of-takes :
    {M : Type 0} (senders : ℕ) (h : List (Event M)) (s : ℕ) (m : M) → turn_of senders (h ++ Takes s m ∷ []) ≡ (s + 1) % senders
turn_of-takes senders h s m = grind (arith, nat_tests, flat_map_push, last_or_push)

pub turn_of-other :
    {M : Type 0} (senders : ℕ) (h : List (Event M)) (e : Event M) → giver_of e ≡ [] →
    turn_of senders (h ++ e ∷ []) ≡ turn_of senders h
turn_of-other senders h e none = grind (arith, nat_tests, flat_map_push, append-nil)
