-- What was taken from a settled sender, and what is known to wait: for all of `takes_what_outlets_sent`. `Accounts` says
-- that the two, appended, are what was sent, and four clauses cut that list. For `stays`: a take from another sender
-- changes neither part, and a take from this sender moves its first known message to those taken.
use Rattle.std.proofs.Common.{◌≡◌, ℕ, ◌<◌, true, List, [], ◌∷◌, ◌++◌, length, drop, Some, sym, ap, ◌∙◌, ⊎_elim, append_assoc, subst, arith}
use Rattle.std.specs.List.{slice_get}
use Rattle.std.proofs.lemmas.Bool.{cases_order}
use Rattle.std.proofs.lemmas.List.{append-nil, length-map, get_or-set_same, get_or-set_other}
use Rattle.std.proofs.lemmas.Option.{slice_get_within}
use Rattle.std.proofs.Math.Seq.{drop-append_seam}
use Rattle.plan_mailbox.specs.declared.inlet.Inlet.{Inlet}
use Rattle.plan_mailbox.specs.Ends.{ReceivingEnd, Accounts, IsTake, after_take, inlet_of, is_settled_at, known_at, taken_at}
use Rattle.plan_mailbox.specs.History.{IsPrefix}
use Rattle.plan_mailbox.proofs.Places.{slice_get_before}

module _ {M : Type 0} where
  pub known-left : (b : ReceivingEnd M) (s : ℕ) (sent : List M) → Accounts b s sent → known_at b s ≡ drop (length (taken_at b s)) sent
  known-left b s sent e = sym (drop-append_seam (taken_at b s) (known_at b s)) ∙ ap (drop (length (taken_at b s))) e

  pub taken-prefix : (b : ReceivingEnd M) (s : ℕ) (sent : List M) → Accounts b s sent → IsPrefix (taken_at b s) sent
  taken-prefix b s sent e = sym e ∙ ap (λ rest. taken_at b s ++ rest) (known-left b s sent e)

  pub taken-in_order :
      (b : ReceivingEnd M) (s : ℕ) (sent : List M) → Accounts b s sent → (k : ℕ) (m : M) → slice_get (taken_at b s) k ≡ Some m →
      slice_get sent k ≡ Some m
  taken-in_order b s sent e k m at_k =
      ap (λ xs. slice_get xs k) (sym e) ∙ slice_get_before (taken_at b s) (known_at b s) k (slice_get_within (taken_at b s) k m at_k) ∙ at_k

  pub taken-all : (b : ReceivingEnd M) (s : ℕ) (sent : List M) → Accounts b s sent → known_at b s ≡ [] → taken_at b s ≡ sent
  taken-all b s sent e none = sym (append-nil (taken_at b s)) ∙ ap (λ rest. taken_at b s ++ rest) (sym none) ∙ e

  -- what a take leaves as it was
  taken-other :
      (before : ReceivingEnd M) (t s : ℕ) (m : M) (rest : List M) → (s ≡ t → ⊥) →
      taken_at (after_take before t m rest) s ≡ taken_at before s
  taken-other before t s m rest other = get_or-set_other before.taken t s (taken_at before t ++ m ∷ []) [] other

  known-other :
      (before : ReceivingEnd M) (t s : ℕ) (m : M) (rest : List M) → (s ≡ t → ⊥) →
      known_at (after_take before t m rest) s ≡ known_at before s
  known-other before t s m rest other = get_or-set_other before.known t s rest [] other

  -- a take from another sender
  stays-other :
      (b a : ReceivingEnd M) (t s : ℕ) (m : M) → (s ≡ t → ⊥) → IsTake b t m a → (sent : List M) → Accounts b s sent → Accounts a s sent
  stays-other b a t s m other take sent e =
      ap (λ x. taken_at x s ++ known_at x s) take.taken ∙ ap (λ xs. xs ++ known_at (after_take b t m (known_at a t)) s)
      (taken-other b t s m (known_at a t) other)
      ∙ ap (λ xs. taken_at b s ++ xs) (known-other b t s m (known_at a t) other) ∙ e

  -- a take from the sender itself
  stays-same :
      (b a : ReceivingEnd M) (t : ℕ) (m : M) → t < length b.taken → IsTake b t m a → (sent : List M) → is_settled_at b t ≡ true →
      Accounts b t sent → Accounts a t sent
  stays-same b a t m within take sent settled e =
      ap (λ xs. xs ++ known_at a t) (ap (λ x. taken_at x t) take.taken ∙ get_or-set_same b.taken t (taken_at b t ++ m ∷ []) [] within)
      ∙ append_assoc (taken_at b t) (m ∷ []) (known_at a t) ∙ ap (λ xs. taken_at b t ++ xs) (sym (take.all_known settled)) ∙ e

  pub stays-settled : (before after : Inlet M) (t : ℕ) (m : M) → IsTake (inlet_of before) t m (inlet_of after)
      → (s : ℕ) (sent : List M) → is_settled_at (inlet_of before) s ≡ true → Accounts (inlet_of before) s sent → Accounts
      (inlet_of after) s sent
  stays-settled before after t m take s sent settled e =
      let b = inlet_of before in
      let a = inlet_of after in
      let within : t < length b.taken = rw length-map (simp length-map at take.known_sender) in
      ⊎_elim
      (λ same. subst (λ x. Accounts a x sent) (sym same)
      (stays-same b a t m within take sent (ap (is_settled_at b) (sym same) ∙ settled) (subst (λ x. Accounts b x sent) same e)))
      (λ differ. stays-other b a t s m (λ same. ⊎_elim (λ low. absurd (omega arith)) (λ high. absurd (omega arith)) differ) take sent e)
      (cases_order s t)
