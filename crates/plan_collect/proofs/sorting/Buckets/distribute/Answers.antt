use Rattle.std.proofs.lemmas.List.Sorted.{IsPermutation-trans}
use Rattle.plan_collect.proofs.sorting.Buckets.distribute.Goals as goal

pub loop-bucket-preserved : goal.loop-bucket-preserved
loop-bucket-preserved c = IsPermutation-trans _ _ _ c.loop-bucket.invariant c.place.ensures
