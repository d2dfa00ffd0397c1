use Rattle.std.proofs.Common.{◌≡◌, ℕ, leb, is_le, nat_cmp, arith}
use Rattle.std.proofs.lemmas.Bool.Decides.{nat_tests}
use Rattle.plan_collect.proofs.collector.is_limit.Goals as goal

-- `<=` by an ordering
is_le-cmp : (a b : ℕ) → is_le (nat_cmp a b) ≡ leb a b
is_le-cmp a b = grind (arith, nat_tests)

pub returns : goal.returns
returns c = grind (arith, nat_tests, is_le-cmp)
