use Rattle.std.proofs.Common.{◌≡◌, false, drop, length, map, take}
use Rattle.plan_rules.specs.Names.{with_names}
use Rattle.plan_rules.specs.TimerEntries.{shown_line}
use Rattle.plan_rules.specs.TimerZones.{zones_from}
use Rattle.plan_rules.proofs.timer_zones.add_lines_zones.Given as goal

-- the names so far, with those of the remaining lines, are those of all lines; those that were present come first
abbrev pub invariant-loop-line : goal.invariant-loop-line
invariant-loop-line l =
    (with_names l.names (zones_from l.sections.inside (map shown_line (drop l.line-index l.lines)))
    ≡ with_names l.fn.names (zones_from false (map shown_line l.lines)))
    × (take (length l.fn.names) l.names ≡ l.fn.names)
