use Rattle.std.proofs.Common.{◌≡◌, take}
use Rattle.std.specs.List.{flat_map}
use Rattle.plan_describe.specs.Numbers.{said_run}
use Rattle.plan_describe.proofs.numbers.items.Given as goal

abbrev pub invariant-loop-run : goal.invariant-loop-run
invariant-loop-run l = l.spans.items ≡ flat_map said_run (take l.run-index l.run-items)
