use Rattle.std.proofs.Common.{arith}
use Rattle.plan_baseline.proofs.TailLemmas.{no_time, other_time}
use Rattle.plan_baseline.proofs.lines.read_second.Goals as goal

pub returns-in_default-clause-none : goal.returns-in_default-clause-none
returns-in_default-clause-none c = no_time c.args.from c.args.upto c.args.text.now c.in_default.ensures.none

pub returns-then-second-from-clause-none : goal.returns-then-second-from-clause-none
returns-then-second-from-clause-none c =
    other_time c.args.from c.args.upto c.in-Some.second c.args.text.now c.in-Some.rest.now c.in-Some.ensures.some
    (λ low high. omega (arith, low, high, c.then-second-from.either))
