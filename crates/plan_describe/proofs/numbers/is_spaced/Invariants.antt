use Rattle.std.proofs.Common.{◌≡◌, drop}
use Rattle.plan_describe.specs.Numbers.{is_spaced}
use Rattle.plan_describe.proofs.numbers.is_spaced.Given as goal

abbrev pub invariant-loop-value : goal.invariant-loop-value
invariant-loop-value l = is_spaced l.step l.before (drop l.value-index l.values) ≡ is_spaced l.step l.first l.values
