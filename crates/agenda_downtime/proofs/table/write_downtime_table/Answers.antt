use Rattle.agenda_downtime.proofs.ShortLemmas.{missed_short}
use Rattle.agenda_downtime.proofs.table.write_downtime_table.Goals as goal

pub write_table-requires : goal.write_table-requires
write_table-requires g c = missed_short c.args.look.now c.as_slice.result.now
