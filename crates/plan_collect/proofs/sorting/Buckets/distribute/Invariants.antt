use Rattle.std.proofs.Common.{IsPermutation}
use Rattle.plan_collect.proofs.sorting.Buckets.distribute.Given as goal

-- the same starts, in another order
abbrev pub invariant-loop : goal.invariant-loop
invariant-loop l = IsPermutation l.fn.starts l.starts

abbrev pub invariant-loop-bucket : goal.invariant-loop-bucket
invariant-loop-bucket l = IsPermutation l.fn.starts l.starts
