-- First answers to two tests, or to one test in two parts of a range.
use Rattle.std.proofs.Common.{◌≡◌, ℕ, ◌<◌, ◌≤◌, min, Bool, Option, None, Some, arith}
use Rattle.std.proofs.lemmas.Bool.Decides.{nat_tests}
use Rattle.plan_next.specs.Starts.{NoneIn, IsFirstIn}
use Rattle.std.proofs.lemmas.Grind.{common_steps}

-- if two tests pass the same numbers, they have the same first one
pub IsFirstIn-same :
    (test other : ℕ → Bool) (a b : ℕ) (answer : Option ℕ) → ((n : ℕ) → n < b → test n ≡ other n) → IsFirstIn test a b answer →
    IsFirstIn other a b answer
IsFirstIn-same test other a b answer given given₂ = grind (arith, nat_tests)

-- if no number passes in the earlier part, the first of the later part is the first of both
pub IsFirstIn-later :
    (test : ℕ → Bool) (a b c : ℕ) (answer : Option ℕ) → a ≤ b → NoneIn test a b → IsFirstIn test b c answer →
    IsFirstIn test a c answer
IsFirstIn-later test a b c answer given given₂ given₃ = grind (arith, nat_tests)

-- a search that begins no later than the limit of numbers, if the limit is after the end
pub IsFirstIn-saturated :
    (test : ℕ → Bool) (a limit since b : ℕ) (answer : Option ℕ) → b ≤ limit → since ≡ min a limit → IsFirstIn test since b answer →
    IsFirstIn test a b answer
IsFirstIn-saturated test a limit since b None fits e none = λ n low high. none n (omega arith) high
IsFirstIn-saturated test a limit since b (Some n) fits e (low, high, is, none) = grind (arith, nat_tests, common_steps)
