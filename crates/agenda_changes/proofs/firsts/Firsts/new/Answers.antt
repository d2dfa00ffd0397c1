use Rattle.agenda_changes.proofs.RowLemmas.{change_more}
use Rattle.agenda_changes.proofs.firsts.Firsts.new.Goals as goal

pub loop-change-preserved : goal.loop-change-preserved
loop-change-preserved c =
    change_more c.args.before.now.lines c.args.now.now c.args.changes.now c.loop-change.change-index _ c.loop-change.firsts
    c.add_change.new.self c.loop-change-test.true c.loop-change.invariant c.in_ok-add_change.ensures
