use Rattle.std.proofs.lemmas.List.Sorted.{IsPermutation-trans}
use Rattle.plan_collect.proofs.sorting.sort_each.Goals as goal

pub loop-end-preserved : goal.loop-end-preserved
loop-end-preserved c = IsPermutation-trans _ _ _ c.loop-end.invariant c.sort_bucket.ensures
