-- What a mailbox behind a lock replies: for `next` in locked.rt. If the reply isn't `Nothing`, by the cases of `taking`: the
-- sender of a message has a number below 8, since it is a sender of the mailbox. For larger numbers nothing waits, but the
-- first message in line does.
use Rattle.std.proofs.Common.{◌≡◌, ℕ, ◌<◌, ◌≤◌, Bool, List, [], ◌∷◌, Option, Some, sym, ap, subst, ◌∙◌, ⊎_elim, arith}
use Rattle.std.proofs.lemmas.Bool.Decides.{nat_tests}
use Rattle.std.specs.List.{list_all}
use Rattle.std.proofs.lemmas.Bool.{cases_lt}
use Rattle.std.proofs.lemmas.List.{get_or_past}
use Rattle.plan_mailbox.specs.declared.replies.Reply.{Reply}
use Rattle.plan_mailbox.specs.declared.replies.Reply.TheVariants.{Nothing}
use Rattle.plan_mailbox.specs.Locked.{IsTakeReply, answer_to_take}
use Rattle.plan_mailbox.specs.Mailbox.{Mailbox, most_senders, next_of, senders_of, take_reply, waiting_at}
use Rattle.plan_mailbox.specs.Turn.{in_turn}
use Rattle.plan_mailbox.specs.Reply.{taking}
use Rattle.plan_mailbox.proofs.Lines.{first_in_line}

nil_is_no_cons : {A : Type 0} (x : A) (xs : List A) → [] ≡ x ∷ xs → ⊥
nil_is_no_cons x xs e = cc

-- the next in line is a sender of the mailbox
next-known : {M : Type 0} (b : Mailbox M) (next : ℕ × M) → next_of b ≡ Some next → next.0 < senders_of b
next-known b next e =
    let waits = first_in_line (waiting_at b) (in_turn (senders_of b) b.turn) next e in
    ⊎_elim (λ known. known) (λ past. absurd (nil_is_no_cons next.1 waits.0 (sym (get_or_past b.waiting next.0 [] past) ∙ waits.1)))
    (cases_lt next.0 (senders_of b))

taking-replies :
    {M : Type 0} (found : Option (ℕ × M)) (all : Bool) → ((next : ℕ × M) → found ≡ Some next → next.0 < most_senders) →
    (taking found all ≡ Nothing → ⊥)
    → IsTakeReply (taking found all) × (Some (taking found all) ≡ answer_to_take (taking found all))
taking-replies found all given given₂ = grind (arith, nat_tests)

-- the replies to a take, except that a message may still come
pub take-replies :
    {M : Type 0} (b : Mailbox M) (reply : Reply M) → senders_of b ≤ most_senders → reply ≡ take_reply b → (reply ≡ Nothing → ⊥) →
    IsTakeReply reply × (Some reply ≡ answer_to_take (take_reply b))
take-replies b reply few e goes_on =
    let both = taking-replies (next_of b) (list_all (λ is_closed. is_closed) b.closed)
    (λ next found. let known = next-known b next found in omega arith) (λ none. goes_on (e ∙ none)) in
    (subst (λ r. IsTakeReply r) (sym e) both.0, ap Some e ∙ both.1)
