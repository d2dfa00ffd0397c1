use Rattle.std.proofs.Common.{◌≡◌, ◌+◌, ◌++◌, drop, map}
use Rattle.plan_check.specs.TimerWarnings.{notes_from}
use Rattle.plan_check.proofs.timer_warnings.add_each_note.Given as goal

-- what was found, with what the remaining lines add to it, is what is found in all lines
abbrev pub invariant-loop-place : goal.invariant-loop-place
invariant-loop-place l =
    l.found.items ++ notes_from (l.place + 1) (map (λ line. line.now) (drop l.place l.lines))
    ≡ l.fn.found.items ++ notes_from 1 (map (λ line. line.now) l.lines)
