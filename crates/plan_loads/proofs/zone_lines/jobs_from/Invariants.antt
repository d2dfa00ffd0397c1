use Rattle.std.proofs.Common.{◌≡◌, ◌≤◌, ◌+◌, ◌++◌, drop, length, map}
use Rattle.plan_loads.specs.ZoneLines.{jobs_from}
use Rattle.plan_texts.specs.Limits.{most_bytes}
use Rattle.plan_loads.proofs.zone_lines.jobs_from.Given as goal

-- the number is that of the next line, and the jobs so far, with those of the lines that are left, are all
abbrev pub invariant-loop-line : goal.invariant-loop-line
invariant-loop-line l = record {
  number : l.number ≡ l.fn.first + l.line-index;
  few : l.fn.first + length l.lines ≤ most_bytes + 1;
  all : l.jobs.items ++ jobs_from l.kind l.path l.number (map (λ line. line.now) (drop l.line-index l.lines))
      ≡ jobs_from l.kind l.path l.fn.first (map (λ line. line.now) l.lines);
}
