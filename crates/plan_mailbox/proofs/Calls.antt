-- What a mailbox replies, by cases: for `take` and `is_new` of `Lanes`, and for `is_new` of `Lanes::new`.
-- Each lemma applies what the code found to the tests of the definition. In `next-found-in` and `next-none-in` the code
-- searched the lanes, and the definition the mailbox's lists of the same length: Lines.antt does the rest.
use Rattle.std.proofs.Common.{◌≡◌, ℕ, zero, suc, Bool, true, false, not, ◌||◌, ltb, List, [], ◌∷◌, length, map, replicate, None, Some, find, refl, subst, sym, ap, ◌∙◌, arith}
use Rattle.std.proofs.lemmas.Bool.Decides.{nat_tests}
use Rattle.std.specs.List.{list_any, list_all, slice_get, AllPass}
use Rattle.std.proofs.lemmas.List.{length-map, length-replicate}
use Rattle.std.proofs.lemmas.Bool.{or_parts, not-true}
use Rattle.std.proofs.lemmas.List.Elements.{All-head, All-tail}
use Rattle.plan_mailbox.specs.declared.replies.Reply.TheVariants.{Took}
use Rattle.plan_mailbox.specs.Mailbox.{Mailbox, senders_of, next_of, take_reply, IsNew, new_mailbox}
use Rattle.plan_mailbox.specs.Places.{waiting_in}
use Rattle.plan_mailbox.specs.Turn.{in_turn, line_of}
use Rattle.plan_mailbox.specs.Reply.{taking}
use Rattle.plan_mailbox.proofs.Lines.{next-found, next-none}

-- if no mark is set, all marks are false
pub none_closed : (marks : List Bool) → list_any (λ x. x) marks ≡ false → marks ≡ replicate (length marks) false
none_closed [] none = refl
none_closed (x ∷ marks) none =
    let parts = or_parts x (list_any (λ y. y) marks) none in
    ap (λ y. y ∷ marks) parts.0 ∙ ap (λ ys. false ∷ ys) (none_closed marks parts.1)

pub none_closed-replicate : (n : ℕ) → list_any (λ x. x) (replicate n false) ≡ false
none_closed-replicate zero = refl
none_closed-replicate (suc n) = none_closed-replicate n

pub none_closed-pass : (marks : List Bool) → AllPass not marks → list_any (λ x. x) marks ≡ false
none_closed-pass [] pass = refl
none_closed-pass (x ∷ marks) pass =
    let here = not-true x (All-head (λ y. not y ≡ true) x marks pass) in
    ap (λ y. y || list_any (λ z. z) marks) here ∙ none_closed-pass marks (All-tail (λ y. not y ≡ true) x marks pass)

-- the next sender in line, by a search through the lanes
pub next-found-in :
    {M L : Type 0} (waiting : L → List M) (lanes seen : List L) (turn s : ℕ) (m : M) (rest : List M) → seen ≡ lanes →
    waiting_in waiting lanes s ≡ m ∷ rest
    → Some s ≡ find (λ t. ltb 0 (length (waiting_in waiting seen t))) (in_turn (length seen) turn)
    → slice_get (line_of (waiting_in waiting lanes) (in_turn (length (map waiting lanes)) turn)) 0 ≡ Some (s, m)
next-found-in waiting lanes seen turn s m rest same waits e =
    next-found (waiting_in waiting lanes) (in_turn (length (map waiting lanes)) turn) s m rest waits
    (sym (e ∙ ap (λ ls. find (λ t. ltb 0 (length (waiting_in waiting ls t))) (in_turn (length ls) turn)) same
    ∙ ap (λ n. find (λ t. ltb 0 (length (waiting_in waiting lanes t))) (in_turn n turn)) (sym (length-map lanes waiting))))

pub next-none-in : {M L : Type 0} (waiting : L → List M) (lanes seen : List L) (turn : ℕ) → seen ≡ lanes
    → None ≡ find (λ t. ltb 0 (length (waiting_in waiting seen t))) (in_turn (length seen) turn)
    → slice_get (line_of (waiting_in waiting lanes) (in_turn (length (map waiting lanes)) turn)) 0 ≡ None
next-none-in waiting lanes seen turn same e = grind (arith, nat_tests, next-none, length-map)

-- if no message waits, the reply depends on whether all senders are closed
pub take_reply-none :
    {M : Type 0} (b : Mailbox M) (all : Bool) → next_of b ≡ None → list_all (λ x. x) b.closed ≡ all → take_reply b ≡ taking None all
take_reply-none b all none closed = ap (λ next. taking next (list_all (λ x. x) b.closed)) none ∙ ap (taking None) closed

pub take_reply-found : {M : Type 0} (b : Mailbox M) (s : ℕ) (m : M) → next_of b ≡ Some (s, m) → take_reply b ≡ Took s m
take_reply-found b s m found = ap (λ next. taking next (list_all (λ x. x) b.closed)) found

-- whether a mark is set, for marks that a function gives
pub list_any-map : {A : Type 0} (f : A → Bool) (xs : List A) → list_any (λ x. x) (map f xs) ≡ list_any f xs
list_any-map f [] = refl
list_any-map f (x ∷ xs) = ap (λ b. f x || b) (list_any-map f xs)

-- a mailbox with the parts of a new one
pub IsNew-from :
    {M : Type 0} (b : Mailbox M) → b.waiting ≡ replicate (senders_of b) [] → b.closed ≡ replicate (senders_of b) false → b.turn ≡ 0 →
    b.has_sent ≡ false → IsNew b
IsNew-from b waiting closed turn sent = grind (arith, nat_tests)

-- a new mailbox is new
pub IsNew-at : {M : Type 0} (b : Mailbox M) (senders room : ℕ) → b ≡ new_mailbox senders room → IsNew b
IsNew-at {M} b senders room e = subst (λ x. IsNew x) (sym e) (ap (λ n. new_mailbox {M = M} n room) (sym (length-replicate senders [])))
