use Rattle.std.proofs.Common.{◌≡◌, take}
use Rattle.agenda_changes.specs.Rows.{changed_lines, firsts}
use Rattle.agenda_changes.proofs.firsts.Firsts.new.Given as goal

-- what the starts of the changes so far run
abbrev pub invariant-loop-change : goal.invariant-loop-change
invariant-loop-change l = l.firsts ≡ firsts (changed_lines l.before.lines l.now (take l.change-index l.changes))
