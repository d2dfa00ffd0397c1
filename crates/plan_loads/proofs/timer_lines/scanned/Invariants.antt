use Rattle.std.proofs.Common.{◌≡◌, drop, map}
use Rattle.plan_loads.specs.TimerLines.{no_scan, scan_from}
use Rattle.plan_texts.specs.WholeLines.{whole_text}
use Rattle.plan_loads.proofs.timer_lines.scanned.Given as goal

-- what is known so far, with the lines that are left, is all
abbrev pub invariant-loop-line : goal.invariant-loop-line
invariant-loop-line l =
    scan_from l.parts l.scan (map whole_text (drop l.line-index l.lines)) ≡ scan_from l.parts no_scan (map whole_text l.lines)
