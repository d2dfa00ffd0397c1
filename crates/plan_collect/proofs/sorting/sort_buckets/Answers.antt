use Rattle.std.proofs.lemmas.List.Sorted.{IsPermutation-trans}
use Rattle.plan_collect.proofs.sorting.sort_buckets.Goals as goal

pub returns : goal.returns
returns c = IsPermutation-trans _ _ _ c.distribute.ensures c.sort_each.ensures
