use Rattle.std.proofs.Common.{◌≡◌, ◌+◌, drop, map}
use Rattle.plan_loads.specs.ZoneLines.{zone_place}
use Rattle.plan_loads.proofs.zone_lines.zone_place.Given as goal

-- the first of the lines that are left is the first of all
abbrev pub invariant-loop-place : goal.invariant-loop-place
invariant-loop-place l =
    l.place + zone_place (map (λ line. line.now) (drop l.place l.lines)) ≡ zone_place (map (λ line. line.now) l.lines)
