use Rattle.std.proofs.Common.{◌++◌, sym}
use Rattle.plan_write.proofs.TakesLemmas.{takes_three}
use Rattle.plan_write.specs.Shown.{shown}
use Rattle.agenda_machine.proofs.ShownLemmas.{shown_three}
use Rattle.agenda_machine.proofs.reports.put_around.Goals as goal

pub returns : goal.returns
returns g c =
    let before = c.args.before.now in
    let unit = c.args.unit.now in
    let after = c.args.after.now in
    takes_three g.S.Stream.holds g.S.Stream.takes_all c.args.lines.now c.put_shown.new.lines c.put_shown-2.new.lines
    c.put_shown-3.new.lines (shown before) (shown unit) (shown after) (shown (before ++ unit ++ after)) c.put_shown.ensures
    c.put_shown-2.ensures c.put_shown-3.ensures (sym (shown_three before unit after c.utf8.before c.utf8.unit))
