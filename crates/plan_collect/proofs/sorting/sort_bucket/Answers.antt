use Rattle.std.proofs.lemmas.List.Sorted.{IsPermutation-put_mid}
use Rattle.plan_collect.proofs.sorting.sort_bucket.Goals as goal
use Rattle.std.proofs.Common.{arith}
use Rattle.std.proofs.lemmas.Bool.Decides.{nat_tests}

pub returns-then-end-starts : goal.returns-then-end-starts
returns-then-end-starts c = grind (arith, nat_tests, IsPermutation-put_mid)
