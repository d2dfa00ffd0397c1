use Rattle.agenda_table.proofs.ShortLemmas.{gaps_short}
use Rattle.agenda_table.proofs.gaps.write_gap_table.Goals as goal

pub write_table-requires : goal.write_table-requires
write_table-requires g c = gaps_short c.args.table.now.look.now c.args.table.now.gaps.now
