use Rattle.std.proofs.Common.{◌≡◌, [], drop, map}
use Rattle.plan_rules.specs.TimerEntries.{no_lines, shown_line}
use Rattle.agenda_describe.specs.Timers.{sentences_from}
use Rattle.agenda_describe.proofs.timer.sentences_of_lines.Given as goal

-- the sentences so far, with what the remaining lines add to them, are those of all lines
abbrev pub invariant-loop-line : goal.invariant-loop-line
invariant-loop-line l =
    sentences_from l.reader l.found.items (map shown_line (drop l.line-index l.lines))
    ≡ sentences_from (no_lines l.zones) [] (map shown_line l.lines)
