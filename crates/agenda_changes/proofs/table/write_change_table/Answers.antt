use Rattle.agenda_changes.proofs.ShortLemmas.{changes_short}
use Rattle.agenda_changes.proofs.table.write_change_table.Goals as goal

pub write_table-requires : goal.write_table-requires
write_table-requires g c = changes_short c.args.look.now c.as_slice.result.now
