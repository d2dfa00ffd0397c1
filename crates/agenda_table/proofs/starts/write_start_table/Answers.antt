use Rattle.agenda_table.proofs.ShortLemmas.{starts_short}
use Rattle.agenda_table.proofs.starts.write_start_table.Goals as goal

pub write_table-requires : goal.write_table-requires
write_table-requires g c =
    let table = c.args.table.now in
    starts_short table.look.now table.count table.starts.now
