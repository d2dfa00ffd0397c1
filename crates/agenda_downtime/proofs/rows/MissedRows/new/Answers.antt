use Rattle.std.specs.Prelude.{slice_get}
use Rattle.plan_downtime.specs.Missed.{MissedParts}
use Rattle.agenda_downtime.specs.Rows.{texts_if}
use Rattle.agenda_downtime.proofs.RowLemmas.{made_more}
use Rattle.agenda_downtime.proofs.rows.MissedRows.new.Goals as goal

pub loop-one-preserved : goal.loop-one-preserved
loop-one-preserved c =
    let one : MissedParts = c.one-item.result in
    made_more (λ (m : MissedParts). texts_if m (slice_get c.args.jobs.now m.job)) c.args.missed.now c.loop-one.one-index one one
    c.loop-one.rows.items c.push_row.new.rows.items c.loop-one-test.true c.one-item.is c.loop-one.invariant c.in_ok-push_row.ensures
