use Rattle.plan_tree.proofs.OrderLemmas.{is_sorted}
use Rattle.plan_tree.proofs.name.in_order.Goals as goal

pub returns : goal.returns
returns c = is_sorted _ _ c.sort_unstable.ensures.permutation c.sort_unstable.ensures.sorted
