-- Next starts: of a rule from those of its events, and each from the one before it.
-- For `first_of_event`, `next_of_event` and `first_starts`, and for KeptLemmas and EventsLemmas. `IsFirstOrEnd` is the
-- first number that passes, or the end of the part. Each lemma builds one such record from others.
use Rattle.std.proofs.Common.{◌≡◌, ℕ, ◌<◌, ◌≤◌, Bool, arith}
use Rattle.std.proofs.lemmas.Bool.Decides.{nat_tests}
use Rattle.std.specs.Prelude.{nat_lt}
use Rattle.std.specs.Bool.{then_some}
use Rattle.plan_next.specs.Next.{IsFirstOrEnd}
use Rattle.plan_next.specs.Starts.{NoneIn, IsLeastIn, IsFirstIn}

-- if the next number isn't the end, it is the first that passes
pub IsLeastIn-next : (test : ℕ → Bool) (a b n : ℕ) → IsFirstOrEnd test a b n → n < b → IsLeastIn test a b n
IsLeastIn-next test a b n next lt = (next.from, lt, next.is lt, next.none)

-- if it is the end, none passes
pub NoneIn-next : (test : ℕ → Bool) (a b n : ℕ) → IsFirstOrEnd test a b n → b ≤ n → NoneIn test a b
NoneIn-next test a b n next le k low high = next.none k low (omega arith)

-- the next number as an option: None if it is the end
pub IsFirstIn-next : (test : ℕ → Bool) (a b n : ℕ) → IsFirstOrEnd test a b n → IsFirstIn test a b (then_some (nat_lt n b) n)
IsFirstIn-next test a b n next = grind (arith, nat_tests)

-- a part that begins later, but not after the next number
pub IsFirstOrEnd-later : (test : ℕ → Bool) (a b n later : ℕ) → IsFirstOrEnd test a b n → a ≤ later → later ≤ n → IsFirstOrEnd test later b n
IsFirstOrEnd-later test a b n later next low high = grind (arith, nat_tests)

pub IsFirstOrEnd-same :
    (test other : ℕ → Bool) (a b n : ℕ) → ((k : ℕ) → k < b → test k ≡ other k) → IsFirstOrEnd test a b n → IsFirstOrEnd other a b n
IsFirstOrEnd-same test other a b n same next = grind (arith, nat_tests)
