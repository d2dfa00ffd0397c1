use Rattle.plan_timers.specs.Reports.{why_text}
use Rattle.std.proofs.Common.{codes}
use Rattle.agenda_machine.specs.Reports.{skipped_heading, skipped_line}
use Rattle.plan_write.specs.Shown.{shown}
use Rattle.agenda_machine.specs.Paths.{below}
use Rattle.agenda_machine.proofs.LineLemmas.{takes_five}
use Rattle.agenda_machine.proofs.reports.put_skipped.Goals as goal

pub returns : goal.returns
unfolding skipped_line
returns g c =
    let one = c.args.one.now in
    takes_five g.S.Stream.holds g.S.Stream.takes_all c.args.lines.now c.put.new.self c.put_path_of.new.lines c.put-2.new.self
    c.put_why.new.lines c.put-3.new.self (skipped_heading one.why) (shown (below c.args.root.now one.path)) (codes ": ")
    (shown (why_text one.why)) (codes "\n") (rw c.skipped_heading.ensures at c.put.ensures) c.put_path_of.ensures c.put-2.ensures
    c.put_why.ensures c.put-3.ensures
