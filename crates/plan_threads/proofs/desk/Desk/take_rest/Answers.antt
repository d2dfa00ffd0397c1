use Rattle.std.proofs.Common.{◌∙◌}
use Rattle.plan_threads.proofs.desk.Desk.take_rest.Goals as goal

pub returns-then-not-take-clause-accounts : goal.returns-then-not-take-clause-accounts
returns-then-not-take-clause-accounts g c = λ s sent accounted. c.take.ensures.accounts s sent (c.loop.invariant.same.2 s sent accounted)

pub loop-preserved : goal.loop-preserved
loop-preserved g c = record {
  can = tt;
  ends = tt;
  same = (
    (λ task so_far. c.take.ensures.gathers task (c.loop.invariant.same.0 task so_far)),
    c.take.ensures.rings ∙ c.loop.invariant.same.1,
    (λ s sent accounted. c.take.ensures.accounts s sent (c.loop.invariant.same.2 s sent accounted)),
  );
}
