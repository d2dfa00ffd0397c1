-- Events without clocks: for `passed_by_events`, which checks each, and for `next_of_each`, which needs that none has one.
use Rattle.std.proofs.Common.{◌≡◌, ℕ, ◌<◌, zero, suc, List, [], ◌∷◌, length, Some, refl, arith}
use Rattle.std.specs.List.{slice_get}
use Rattle.plan_match.specs.declared.event.Calendar.{Calendar}
use Rattle.plan_next.specs.UtcLaws.{HaveNoClock}

-- none of the first i events has a clock
abbrev pub NoneBelow : List Calendar → ℕ → Type 0
NoneBelow events i = (k : ℕ) (event : Calendar) → k < i → slice_get events k ≡ Some event → event.clock ≡ []

pub all_none : (events : List Calendar) → NoneBelow events (length events) → HaveNoClock events
all_none [] below = tt
all_none (event ∷ events) below =
    (below 0 event (omega arith) refl, all_none events (λ k other lt is. below (suc k) other (omega arith) is))

-- an event of a list in which none has a clock
pub none_at : (events : List Calendar) (i : ℕ) (event : Calendar) → HaveNoClock events → slice_get events i ≡ Some event → event.clock ≡ []
none_at [] i event none is = cc
none_at (first ∷ events) zero event (none, rest) is = cc
none_at (first ∷ events) (suc i) event (none, rest) is = none_at events i event rest is
