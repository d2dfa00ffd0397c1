use Rattle.agenda_describe.proofs.ShortLemmas.{jobs_short}
use Rattle.agenda_describe.proofs.table.write_description_table.Goals as goal

pub write_table-requires : goal.write_table-requires
write_table-requires g c = jobs_short c.as_slice.result.now
