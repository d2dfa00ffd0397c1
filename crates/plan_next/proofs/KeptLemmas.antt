-- The next starts that are kept for the events of a list.
-- For `first_of_each` and `next_of_each`.
-- `AreNexts-start` is hard: an event that started before the list's next start would itself be a start (`not_before`).
use Rattle.std.proofs.Common.{◌≡◌, ◌≢◌, ℕ, ◌+◌, ◌<◌, ◌≤◌, true, List, length, get_or, set, get_or-set_other, get_or-set_same, Some, inl, inr, sym, ap, ◌∙◌, subst, arith}
use Rattle.std.specs.Prelude.{nat_lt, slice_get, slice_index}
use Rattle.std.proofs.lemmas.Bool.{cases_lt, lt-ltb, true≢false}
use Rattle.plan_sets.specs.Limits.{end_second}
use Rattle.plan_match.specs.declared.event.Calendar.{Calendar}
use Rattle.plan_match.specs.declared.rule.Rule.TheVariants as rule
use Rattle.plan_next.specs.Next.{AreNexts, IsFirstOrEnd}
use Rattle.plan_next.specs.Starts.{event_starts, is_start}
use Rattle.plan_next.proofs.EventsLemmas.{is_start-event}
use Rattle.plan_next.proofs.NextsLemmas.{IsFirstOrEnd-later}

-- no event's next start comes before the list's
not_before :
    (events : List Calendar) (from end start k n : ℕ) (event : Calendar) →
    IsFirstOrEnd (is_start (rule.Events events)) from end start → end ≤ end_second →
    slice_get events k ≡ Some event → IsFirstOrEnd (event_starts event) from end n → start ≤ n
not_before events from end start k n event next years is kept =
    let to = next.to in
    elim (cases_lt n start) [
      | inl before ↦
          let known : nat_lt n end_second ≡ true = lt-ltb _ _ (omega arith) in
          let some = is_start-event events k n event is (kept.is (omega arith)) in
          let starts : is_start (rule.Events events) n ≡ true = rw known some in
          absurd (true≢false (sym starts ∙ next.none n kept.from before))
      | inr after ↦ after
    ]

-- what is kept for each event, if the list's next start is known
pub AreNexts-start :
    (events : List Calendar) (from end start : ℕ) (kept : List ℕ) → IsFirstOrEnd (is_start (rule.Events events)) from end start →
    end ≤ end_second → AreNexts events from end kept → AreNexts events start end kept
AreNexts-start events from end start kept next years keeps =
    λ k event is.
    let here = keeps k event is in
    IsFirstOrEnd-later (event_starts event) from end (slice_index kept k) start here next.from
    (not_before events from end start k (slice_index kept k) event next years is here)

-- the next starts are kept for the events before place i
abbrev pub AreKept : List Calendar → (from end i : ℕ) → List ℕ → Type 0
AreKept events from end i kept =
    (k : ℕ) → (event : Calendar) → k < i → slice_get events k ≡ Some event
    → IsFirstOrEnd (event_starts event) from end (get_or kept k 0)

-- and for the events at or after i
abbrev pub AreLeft : List Calendar → (from end i : ℕ) → List ℕ → Type 0
AreLeft events from end i kept =
    (k : ℕ) → (event : Calendar) → i ≤ k → slice_get events k ≡ Some event
    → IsFirstOrEnd (event_starts event) from end (get_or kept k 0)

pub AreKept-more :
    (events : List Calendar) (from end i next : ℕ) (kept : List ℕ) (event : Calendar) → i < length kept →
    slice_get events i ≡ Some event → IsFirstOrEnd (event_starts event) from end next → AreKept events from end i kept →
    AreKept events from end (i + 1) (set kept i next)
AreKept-more events from end i next kept event within is here so_far k other lt other_is =
    elim (cases_lt k i) [
      | inl before ↦ let ne : k ≢ i = omega arith in rw get_or-set_other (so_far k other before other_is)
      | inr after ↦
          let same : k ≡ i = omega arith in
          let the_event : event ≡ other = let there = ap (slice_get events) same in cc in
          subst (λ e. IsFirstOrEnd (event_starts e) from end (get_or (set kept i next) k 0)) the_event (rw same (rw get_or-set_same here))
    ]

pub AreLeft-more :
    (events : List Calendar) (from end i next : ℕ) (kept : List ℕ) → AreLeft events from end i kept →
    AreLeft events from end (i + 1) (set kept i next)
AreLeft-more events from end i next kept left k event after is =
    let ne : k ≢ i = omega arith in
    rw get_or-set_other (left k event (omega arith) is)
