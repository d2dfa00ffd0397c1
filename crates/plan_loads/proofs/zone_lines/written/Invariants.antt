use Rattle.std.proofs.Common.{◌≡◌, ◌++◌, drop, map}
use Rattle.plan_texts.specs.Lines.{written}
use Rattle.plan_loads.proofs.zone_lines.written.Given as goal

-- the text so far, with that of the lines that are left, is all
abbrev pub invariant-loop-line : goal.invariant-loop-line
invariant-loop-line l =
    l.text.items ++ written (map (λ line. line.now) (drop l.line-index l.lines)) ≡ written (map (λ line. line.now) l.lines)
