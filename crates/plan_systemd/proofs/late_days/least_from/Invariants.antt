use Rattle.std.proofs.Common.{◌≡◌, ◌<◌, ◌^◌, IfSome, None, drop, fold, map}
use Rattle.plan_systemd.specs.LateDays.{element_order, least_by}
use Rattle.plan_systemd.proofs.late_days.least_from.Given as goal

-- the least order so far, and those of the elements that are left, give the least order of all
abbrev pub invariant-loop-item : goal.invariant-loop-item
invariant-loop-item l =
    (fold (least_by l.from) l.least (map element_order (drop l.item-index l.items))
    ≡ fold (least_by l.from) None (map element_order l.items))
    × IfSome l.least (λ least. least < 2 ^ 48)
