use Rattle.std.proofs.lemmas.List.Sorted.{IsPermutation-trans}
use Rattle.plan_collect.proofs.sorting.Buckets.place.Goals as goal

pub loop-from-preserved : goal.loop-from-preserved
loop-from-preserved c = IsPermutation-trans _ _ _ c.loop-from.invariant c.place_one.ensures
