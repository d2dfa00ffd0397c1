use Rattle.std.proofs.Common.{◌≡◌, ◌-◌}
use Rattle.std.specs.List.{list_all, range_with_len}
use Rattle.plan_sets.specs.Values.{has_value}
use Rattle.plan_describe.proofs.numbers.has_all.Given as goal

-- the numbers so far are in the set
abbrev pub invariant-loop-value : goal.invariant-loop-value
invariant-loop-value l =
    list_all (has_value l.values) (range_with_len l.value (l.end - l.value)) ≡ list_all (has_value l.values) (range_with_len l.first (l.end - l.first))
