use Rattle.std.proofs.Common.{◌≡◌, ◌≤◌, ◌+◌, ◌++◌, drop, length, map}
use Rattle.plan_loads.specs.TimerLines.{read_otherwise}
use Rattle.plan_texts.specs.Limits.{most_bytes}
use Rattle.plan_loads.proofs.timer_lines.read_otherwise.Given as goal

-- the number is that of the next line, and what was found so far, with what is found in the lines that are left, is all
abbrev pub invariant-loop-line : goal.invariant-loop-line
invariant-loop-line l = record {
  number : l.number ≡ 1 + l.line-index;
  few : length l.lines ≤ most_bytes;
  all : l.found.items ++ read_otherwise l.parts l.number (map (λ line. line.now) (drop l.line-index l.lines))
      ≡ read_otherwise l.parts 1 (map (λ line. line.now) l.lines);
}
