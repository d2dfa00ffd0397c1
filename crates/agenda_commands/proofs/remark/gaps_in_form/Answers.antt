use Rattle.agenda_commands.proofs.RemarkLemmas.{gaps_table}
use Rattle.agenda_commands.proofs.remark.gaps_in_form.Goals as goal

pub returns-in_ok-made-in-Table : goal.returns-in_ok-made-in-Table
returns-in_ok-made-in-Table c =
    gaps_table c.args.form c.in-Table.form c.args.least c.from.result c.args.agenda c.args.jobs _ c.new-in-Table.result c.in-Table.is
    c.from.ensures c.new-in-Table.ensures c.in_ok-made-in-Table.ensures.table
