use Rattle.std.proofs.Common.{◌-◌, ◌≤◌, length, drop, arith}
use Rattle.std.proofs.lemmas.List.{length-drop, take_all}
use Rattle.plan_cron.specs.Lines.{last_line}
use Rattle.plan_cron.proofs.lines.after_last_line.Goals as goal

pub returns-clause-lines : goal.returns-clause-lines
returns-clause-lines c =
    let rest = drop last_line c.args.lines.now in
    take_all (length c.args.lines.now - last_line) rest (omega (arith, length-drop last_line c.args.lines.now))
