-- A run of steps, and one more step: `IsRun` is in the invariant of the loop of `run_steps`, and gives its clauses at
-- `Ok`. In `IsRun-push` an earlier reply stays, since its history does. The last reply is the one after the whole
-- history, because that history left the mailbox (`reply_of-left`).
use Rattle.std.proofs.Common.{◌≡◌, ℕ, ◌+◌, ◌<◌, ◌≤◌, List, [], ◌∷◌, ◌++◌, length, take, Some, sym, ap, ◌∙◌, inl, inr, subst, arith}
use Rattle.std.proofs.lemmas.List.{append-nil, append_assoc, length-append, take-append-le, take_at}
use Rattle.std.proofs.lemmas.Option.{same_Some, none-some, slice_get_within}
use Rattle.std.proofs.lemmas.Bool.{cases_lt}
use Rattle.plan_mailbox.specs.declared.replies.Step.{Step}
use Rattle.plan_mailbox.specs.declared.replies.Reply.{Reply}
use Rattle.plan_mailbox.specs.History.{event_of, record_of}
use Rattle.plan_mailbox.specs.Reply.{reply_after, RepliesInTurn}
use Rattle.plan_mailbox.specs.Mailbox.{Mailbox, senders_of, reply_of, after, IsNew}
use Rattle.plan_mailbox.proofs.Places.{slice_get_before, slice_get_last}
use Rattle.plan_mailbox.proofs.Steps.{Keeps, Keeps-step, Keeps-new, reply_of-left}
use Rattle.std.proofs.lemmas.Bool.Decides.{nat_tests}
use Rattle.std.proofs.lemmas.Grind.{common_steps}

-- what one more step records
record_of-push :
    {M : Type 0} (xs : List (Step M)) (rs : List (Reply M)) (x : Step M) (r : Reply M) → length rs ≡ length xs →
    record_of (xs ++ x ∷ []) (rs ++ r ∷ []) ≡ record_of xs rs ++ event_of x r
record_of-push [] [] x r e = append-nil (event_of x r)
record_of-push [] (s ∷ rs) x r e = absurd (omega arith)
record_of-push (y ∷ xs) [] x r e = absurd (omega arith)
record_of-push (y ∷ xs) (s ∷ rs) x r e = ap (λ h. event_of y s ++ h) (record_of-push xs rs x r (omega arith)) ∙ sym
    (append_assoc (event_of y s) (record_of xs rs) (event_of x r))

-- the steps got these replies, and the mailbox is what they left
pub record IsRun {M : Type 0} (senders room : ℕ) (steps : List (Step M)) (replies : List (Reply M)) (b : Mailbox M) : Type 0 where
  pub as_many : length replies ≡ length steps
  pub in_turn : RepliesInTurn senders room steps replies
  pub keeps : Keeps senders room (record_of steps replies) b

-- no step was performed yet
pub IsRun-nil : {M : Type 0} (b : Mailbox M) → IsNew b → IsRun (senders_of b) b.room [] [] b
IsRun-nil {M} b new = grind (arith, nat_tests, common_steps, none-some, Keeps, Keeps-new)

-- one more step was performed
pub IsRun-push :
    {M : Type 0} (senders room : ℕ) (xs : List (Step M)) (rs : List (Reply M)) (b : Mailbox M) (x : Step M) →
    IsRun senders room xs rs b → IsRun senders room (xs ++ x ∷ []) (rs ++ reply_of b x ∷ []) (after b x)
IsRun-push {M} senders room xs rs b x run =
    let r = reply_of b x in
    record {
      as_many = length-append rs (r ∷ []) ∙ ap (λ n. n + 1) run.as_many ∙ sym (length-append xs (x ∷ []));
      in_turn = λ i step e.
          elim (cases_lt i (length xs)) [
            | inl lt ↦
                let le : i ≤ length xs = omega arith in
                slice_get_before rs (r ∷ []) i (omega (arith, run.as_many)) ∙ run.in_turn i step
                (sym (slice_get_before xs (x ∷ []) i lt) ∙ e)
                ∙ ap (λ p. Some (reply_after senders room (record_of p (take i rs)) step)) (sym (take-append-le i xs (x ∷ []) le))
                ∙ ap (λ p. Some (reply_after senders room (record_of (take i (xs ++ x ∷ [])) p) step))
                (sym (take-append-le i rs (r ∷ []) (omega (arith, run.as_many))))
            | inr ge ↦
                let small : i < length xs + 1 = omega (arith, slice_get_within (xs ++ x ∷ []) i step e, length-append xs (x ∷ [])) in
                let here : i ≡ length xs = omega arith in
                let same : x ≡ step = same_Some x step (sym (slice_get_last xs x i here) ∙ e) in
                slice_get_last rs r i (omega (arith, run.as_many)) ∙ ap (λ s. Some s)
                (reply_of-left senders room (record_of xs rs) b run.keeps.left x)
                ∙ ap (λ s. Some (reply_after senders room (record_of xs rs) s)) same
                ∙ ap (λ p. Some (reply_after senders room (record_of p rs) step)) (sym (take_at xs (x ∷ []) i (sym here)))
                ∙ ap (λ p. Some (reply_after senders room (record_of (take i (xs ++ x ∷ [])) p) step))
                (sym (take_at rs (r ∷ []) i (omega (arith, run.as_many))))
          ];
      keeps = subst (λ h. Keeps senders room h (after b x)) (sym (record_of-push xs rs x r run.as_many))
          (Keeps-step senders room (record_of xs rs) b x run.keeps);
    }
