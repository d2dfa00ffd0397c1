use Rattle.std.proofs.Common.{◌≡◌, [], drop}
use Rattle.plan_describe.specs.Numbers.{runs_after}
use Rattle.plan_describe.proofs.numbers.runs.Given as goal

abbrev pub invariant-loop-value : goal.invariant-loop-value
invariant-loop-value l = runs_after l.runs.items (drop l.value-index l.values) ≡ runs_after [] l.values
