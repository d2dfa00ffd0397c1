use Rattle.std.proofs.Common.{◌≡◌, ◌-◌, ◌++◌}
use Rattle.plan_sets.specs.Values.{has_value}
use Rattle.plan_describe.specs.Numbers.{members}
use Rattle.plan_describe.proofs.numbers.members.Given as goal

-- the members so far, and those from the next number on
abbrev pub invariant-loop-value : goal.invariant-loop-value
invariant-loop-value l =
    l.found.items ++ members (has_value l.values) l.from (l.end - l.from) ≡ members (has_value l.values) l.first (l.end - l.first)

abbrev pub decreases-loop-value : goal.decreases-loop-value
decreases-loop-value l = l.end - l.from
