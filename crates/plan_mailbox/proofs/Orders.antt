-- What a lawful history says about the order of its events: for `in_order` and `closed` of `takes_what_was_sent`. In
-- order: what was taken is a prefix of what was sent. Closed: a send after its close would be in the history from the
-- close on, for which `closed` of `IsLawful` says that the sender sent nothing.
use Rattle.std.proofs.Common.{◌≡◌, ℕ, zero, suc, ◌+◌, ◌-◌, ◌<◌, ◌≤◌, Bool, true, cond, eqb, List, [], ◌∷◌, ◌++◌, length, get_or, take, drop, Some, refl, sym, ap, ◌∙◌, ⊎_elim, arith}
use Rattle.std.specs.Prelude.{flat_map}
use Rattle.std.specs.List.{list_any, slice_get}
use Rattle.std.proofs.lemmas.List.Folds.{list_any_more}
use Rattle.std.proofs.lemmas.Option.{same_Some, none-some, slice_get_within, get_or_from_slice_get}
use Rattle.std.proofs.lemmas.Bool.{cases_lt, cases_eq, or_right, eq-eqb}
use Rattle.plan_mailbox.specs.History.{Event, Sends, Closes, sent_by, closes, sent_of, taken_of, was_closed, IsInOrder, SendsBeforeClose, IsLawful}
use Rattle.plan_mailbox.proofs.Places.{slice_get_before, slice_get-drop}
use Rattle.plan_mailbox.proofs.Histories.{in_order-whole}

-- if an appended list is empty, each of its parts is empty
empty_left : {A : Type 0} (xs ys : List A) → xs ++ ys ≡ [] → xs ≡ []
empty_left [] ys e = refl
empty_left (x ∷ xs) ys e = cc

empty_right : {A : Type 0} (xs ys : List A) → xs ++ ys ≡ [] → ys ≡ []
empty_right [] ys e = e
empty_right (x ∷ xs) ys e = cc

empty_part : {X A : Type 0} (f : X → List A) (xs : List X) (k : ℕ) (x : X) → slice_get xs k ≡ Some x → flat_map f xs ≡ [] → f x ≡ []
empty_part f [] k x at_k e = absurd (none-some x at_k)
empty_part f (y ∷ ys) zero x at_k e = ap f (sym (same_Some y x at_k)) ∙ empty_left (f y) (flat_map f ys) e
empty_part f (y ∷ ys) (suc k) x at_k e = empty_part f ys k x at_k (empty_right (f y) (flat_map f ys) e)

-- an event at a place has happened once the place is passed
met : {X : Type 0} (p : X → Bool) (xs : List X) (i : ℕ) (x : X) → slice_get xs i ≡ Some x → p x ≡ true → list_any p (take (i + 1) xs) ≡ true
met p xs i x at_i holds =
    list_any_more p xs i x (slice_get_within xs i x at_i) ∙ or_right (list_any p (take i xs)) (p (get_or xs i x))
    (ap p (get_or_from_slice_get xs i x x at_i) ∙ holds)

-- in a lawful history messages are taken in the order in which they were sent, each once
pub IsInOrder-lawful : {M : Type 0} (senders room : ℕ) (h : List (Event M)) → IsLawful senders room h → IsInOrder h
IsInOrder-lawful senders room h l s k m e =
    ap (λ ms. slice_get ms k) (in_order-whole senders room h l s) ∙ slice_get_before (taken_of h s)
    (drop (length (taken_of h s)) (sent_of h s)) k (slice_get_within (taken_of h s) k m e) ∙ e

-- in a lawful history, nothing is sent after a close
not_after :
    {M : Type 0} (senders room : ℕ) (h : List (Event M)) → IsLawful senders room h → (s i j : ℕ) (m : M) →
    slice_get h i ≡ Some (Closes s) → slice_get h j ≡ Some (Sends s m) → i < j → ⊥
not_after senders room h l s i j m close send later =
    let closed : was_closed (take (i + 1) h) s ≡ true = met (closes s) h i (Closes s) close (eq-eqb s s refl) in
    let at_rest : slice_get (drop (i + 1) h) (j - (i + 1)) ≡ Some (Sends s m) = slice_get-drop (i + 1) h (j - (i + 1)) ∙ ap
    (slice_get h) (omega arith) ∙ send in
    let none : cond (eqb s s) (m ∷ []) [] ≡ [] = empty_part (sent_by s) (drop (i + 1) h) (j - (i + 1)) (Sends s m) at_rest
    (l.closed (i + 1) s closed) in
    let some : cond (eqb s s) (m ∷ []) [] ≡ m ∷ [] = ap (λ b. cond b (m ∷ []) []) (eq-eqb s s refl) in
    cc

pub SendsBeforeClose-lawful : {M : Type 0} (senders room : ℕ) (h : List (Event M)) → IsLawful senders room h → SendsBeforeClose h
SendsBeforeClose-lawful senders room h l s i j m close send =
    ⊎_elim (λ (lt : j < i). lt) (λ (ge : i ≤ j).
    ⊎_elim (λ (same : i ≡ j). let one : Some (Closes s) ≡ Some (Sends s m) = sym close ∙ ap (slice_get h) same ∙ send in cc)
    (λ (apart : i ≡ j → ⊥). absurd (not_after senders room h l s i j m close send (omega arith)))
    (cases_eq i j))
    (cases_lt j i)
