use Rattle.std.proofs.Common.{arith, ◌∙◌}
use Rattle.agenda_changes.proofs.RowLemmas.{no_first, row_more}
use Rattle.agenda_changes.proofs.rows.rows_of.Goals as goal
use Rattle.agenda_changes.proofs.rows.rows_of.Goals.{in-Some+in_ok-new+in_ok-push, in_default}

pub loop-row-preserved : goal.loop-row-preserved
loop-row-preserved c = λ earlier later are_before are_after. elim c.match-get.branch [
  | in-Some+in_ok-new+in_ok-push w ↦ rw w.rows-is
      (w.in_ok-push.ensures.items
      ∙ row_more earlier later c.args.firsts.now c.loop-row.row _ c.args.before.now c.args.after.now c.loop-row.rows.items _
      w.in-Some.ensures.first are_before are_after (c.loop-row.invariant earlier later are_before are_after) w.in_ok-new.ensures)
  | in_default w ↦ absurd (no_first c.args.firsts.now c.loop-row.row w.in_default.ensures.first (omega arith))
]
