use Rattle.std.proofs.Common.{◌≡◌, ℕ, leb, is_le, nat_cmp, arith}
use Rattle.std.proofs.lemmas.Bool.Decides.{nat_tests}
use Rattle.plan_mailbox.proofs.lanes.is_size.Goals as goal

-- `<=` by an ordering
is_le-cmp : (a b : ℕ) → is_le (nat_cmp a b) ≡ leb a b
is_le-cmp a b = grind (arith, nat_tests)

pub returns-then-contains : goal.returns-then-contains
returns-then-contains c = grind (arith, nat_tests, is_le-cmp)

pub returns-else-contains : goal.returns-else-contains
returns-else-contains c = grind (arith, nat_tests, is_le-cmp)
