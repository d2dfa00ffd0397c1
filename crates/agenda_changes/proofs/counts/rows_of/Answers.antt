use Rattle.std.proofs.Common.{arith, ◌∙◌}
use Rattle.agenda_changes.proofs.CountLemmas.{rows_more}
use Rattle.agenda_changes.proofs.counts.rows_of.Goals as goal

pub loop-number-preserved : goal.loop-number-preserved
loop-number-preserved c =
    c.in_ok-push.ensures.items
    ∙ rows_more c.args.jobs.now c.loop-number.number c.get.result.0.now c.get.result.1.now c.args.firsts.now c.loop-number.rows.items
    c.row.result (omega arith) c.get.ensures c.loop-number.invariant c.row.ensures
