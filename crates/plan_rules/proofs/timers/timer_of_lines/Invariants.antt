use Rattle.std.proofs.Common.{◌≡◌, map, drop}
use Rattle.plan_rules.specs.TimerEntries.{draft_of, shown_line, timer_of_lines}
use Rattle.plan_rules.proofs.TimerLemmas.{rest_reading}
use Rattle.plan_rules.proofs.timers.timer_of_lines.Given as goal

abbrev pub invariant-loop-line : goal.invariant-loop-line
invariant-loop-line l =
    rest_reading l.name l.reader (draft_of l.draft) l.options (map shown_line (drop l.line-index l.lines))
    ≡ timer_of_lines l.zones l.name (map shown_line l.lines)
