use Rattle.std.proofs.Common.{◌≡◌, List, map, take}
use Rattle.plan_baseline.specs.Line.{Line}
use Rattle.agenda_changes.specs.Counts.{counts_of}
use Rattle.agenda_changes.specs.Rows.{change_of}
use Rattle.agenda_changes.proofs.rows.rows_of.Given as goal

-- the rows so far
abbrev pub invariant-loop-row : goal.invariant-loop-row
invariant-loop-row l =
    (earlier later : List Line) → l.before ≡ counts_of earlier l.firsts → l.after ≡ counts_of later l.firsts →
    l.rows.items ≡ map (change_of earlier later) (take l.row l.firsts)
