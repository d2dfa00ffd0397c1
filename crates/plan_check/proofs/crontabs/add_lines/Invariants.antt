use Rattle.std.proofs.Common.{◌≡◌, ◌++◌}
use Rattle.plan_check.specs.Crontabs.{lines_findings, after_lines}
use Rattle.plan_check.proofs.LinesLemmas.{lines_left}
use Rattle.plan_check.proofs.crontabs.add_lines.Given as goal

-- what was found, with what the remaining lines add to it, is what is found in all lines; so is what is known
abbrev pub invariant-loop-place : goal.invariant-loop-place
invariant-loop-place l = record {
  found : l.found.items ++ lines_findings l.known l.label l.kind l.beyond (lines_left (λ line. line.now) l.lines l.place)
      ≡ l.fn.found.items ++ lines_findings l.fn.known l.label l.kind l.beyond (lines_left (λ line. line.now) l.lines 0);
  known : after_lines l.known l.label l.kind (lines_left (λ line. line.now) l.lines l.place)
      ≡ after_lines l.fn.known l.label l.kind (lines_left (λ line. line.now) l.lines 0);
}
