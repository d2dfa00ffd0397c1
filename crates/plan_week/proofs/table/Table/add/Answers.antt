use Rattle.std.proofs.Common.{◌∙◌, ◌-◌, ◌/◌, ◌%◌, ap, sym}
use Rattle.plan_week.specs.Table.{day_with}
use Rattle.plan_week.proofs.TableLemmas.{changed_within}
use Rattle.plan_week.proofs.table.Table.add.Goals as goal

pub returns-clause-days : goal.returns-clause-days
returns-clause-days c =
    let change = day_with (c.args.hour % 24) c.args.starts in
    changed_within change (c.args.hour / 24 - c.args.self.now.first) c.args.self.now.days.items c.index_mut-day.result.now
    c.add.new.self (c.add.ensures ∙ ap change c.index_mut-day.ensures.value)
