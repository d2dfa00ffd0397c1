use Rattle.plan_baseline.proofs.OrderLemmas.{ordered}
use Rattle.plan_baseline.proofs.baseline.Baseline.read.Goals as goal

pub invariant_of-result : goal.invariant_of-result
invariant_of-result c = (
  rw c.deref.ensures.value at c.in_ok-span.ensures.tails,
  c.in_ok-span.ensures.places,
  ordered _ (record { span = c.in_ok-span.span; lines = _ }) (rw c.deref.ensures.value at c.in_ok-span.ensures.read),
)
