use Rattle.agenda_table.proofs.TimeLemmas.{moment_utf8}
use Rattle.agenda_table.proofs.time.moment.Goals as goal

pub returns-in-Err : goal.returns-in-Err
returns-in-Err c =
    let no = c.in-Err.ensures.variant.1 (moment_utf8 c.moment_text.result c.args.second c.requires c.moment_text.ensures) in
    cc
