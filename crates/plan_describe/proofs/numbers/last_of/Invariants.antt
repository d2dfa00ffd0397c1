use Rattle.std.proofs.Common.{◌≡◌, drop}
use Rattle.plan_describe.specs.Numbers.{last_of}
use Rattle.plan_describe.proofs.numbers.last_of.Given as goal

abbrev pub invariant-loop-value : goal.invariant-loop-value
invariant-loop-value l = last_of l.last (drop l.value-index l.values) ≡ last_of l.first l.values
