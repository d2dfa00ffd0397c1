use Rattle.std.proofs.Common.{◌≡◌, ◌+◌, drop, map}
use Rattle.plan_loads.specs.CronLines.{first_why}
use Rattle.plan_loads.proofs.cron_lines.first_why.Given as goal

-- the first of the lines that are left is the first of all
abbrev pub invariant-loop-place : goal.invariant-loop-place
invariant-loop-place l =
    first_why l.kind (1 + l.place) (map (λ line. line.now) (drop l.place l.lines)) ≡ first_why l.kind 1 (map (λ line. line.now) l.lines)
