use Rattle.std.proofs.Common.{◌≡◌, ◌+◌, drop, map}
use Rattle.plan_owners.specs.Crontabs.{missing_from}
use Rattle.plan_owners.proofs.crontabs.missing_from.Given as goal

-- the first of the lines that are left is the first of all
abbrev pub invariant-loop-place : goal.invariant-loop-place
invariant-loop-place l =
    missing_from l.names (1 + l.place) (map (λ line. line.now) (drop l.place l.lines)) ≡ missing_from l.names 1 (map (λ line. line.now) l.lines)
