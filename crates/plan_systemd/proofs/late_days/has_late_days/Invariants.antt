use Rattle.std.proofs.Common.{◌≡◌, ◌^◌, ◌≤◌, ◌-◌, ◌*◌, true, not, nat_le, ◌||◌, map}
use Rattle.std.specs.List.{list_all}
use Rattle.plan_systemd.specs.LateDays.{element_order, is_too_far, rank}
use Rattle.plan_systemd.proofs.late_days.has_late_days.Given as goal

-- `before` different elements come before `from`, and none of them is too far
abbrev pub invariant-loop-order : goal.invariant-loop-order
invariant-loop-order l =
    (rank l.from (map element_order l.items) ≡ l.before)
    × (list_all (λ order. nat_le l.from order || not (is_too_far (map element_order l.items) order)) (map element_order l.items) ≡ true)
    × (l.from ≤ 2 ^ 48)
    × (3 * l.before ≤ 31)

abbrev pub decreases-loop-order : goal.decreases-loop-order
decreases-loop-order l = 2 ^ 48 - l.from
