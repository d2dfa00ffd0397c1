use Rattle.std.proofs.Common.{IsPermutation}
use Rattle.plan_collect.proofs.sorting.sort_each.Given as goal

-- the same starts, in another order
abbrev pub invariant-loop-end : goal.invariant-loop-end
invariant-loop-end l = IsPermutation l.initial.starts l.starts
