use Rattle.plan_timers.specs.Reports.{unplanned_text}
use Rattle.std.proofs.Common.{codes}
use Rattle.agenda_machine.specs.Reports.{heading, place_of, unplanned_line}
use Rattle.plan_write.specs.Shown.{shown}
use Rattle.agenda_machine.proofs.LineLemmas.{takes_five}
use Rattle.agenda_machine.proofs.reports.put_unplanned.Goals as goal

pub returns : goal.returns
unfolding unplanned_line
returns g c =
    let one = c.args.one.now in
    takes_five g.S.Stream.holds g.S.Stream.takes_all c.args.lines.now c.put.new.self c.put_place_of.new.lines c.put-2.new.self
    c.put_why_unplanned.new.lines c.put-3.new.self (heading one.why) (place_of c.args.root.now one)
    (codes ": ") (shown (unplanned_text one.why)) (codes "\n") (rw c.heading.ensures at c.put.ensures) c.put_place_of.ensures c.put-2.ensures
    c.put_why_unplanned.ensures c.put-3.ensures
