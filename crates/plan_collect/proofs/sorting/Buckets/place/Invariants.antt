use Rattle.std.proofs.Common.{IsPermutation}
use Rattle.plan_collect.proofs.sorting.Buckets.place.Given as goal

-- the same starts, in another order
abbrev pub invariant-loop-from : goal.invariant-loop-from
invariant-loop-from l = IsPermutation l.initial.starts l.starts
