-- The bits from `low` on, of those up to `high`.
use Rattle.plan_sets.proofs.RangeLemmas.{has_bit-ones_between}
use Rattle.plan_sets.proofs.value_set.bits_from_to.Goals as goal

pub returns : goal.returns
returns c i = has_bit-ones_between c.args.low c.args.high i c.requires.forwards c.requires.within
