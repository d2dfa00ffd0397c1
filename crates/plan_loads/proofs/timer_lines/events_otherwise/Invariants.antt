use Rattle.std.proofs.Common.{◌≡◌, ◌++◌, drop, map}
use Rattle.std.specs.List.{flat_map}
use Rattle.plan_loads.specs.TimerLines.{event_otherwise}
use Rattle.plan_texts.specs.WholeLines.{whole_text}
use Rattle.plan_loads.proofs.timer_lines.events_otherwise.Given as goal

-- what was found so far, with what is found in the lines that are left, is all
abbrev pub invariant-loop-line : goal.invariant-loop-line
invariant-loop-line l =
    l.found.items ++ flat_map (event_otherwise l.parts) (map whole_text (drop l.line-index l.lines))
    ≡ flat_map (event_otherwise l.parts) (map whole_text l.lines)
