use Rattle.std.proofs.Common.{arith}
use Rattle.agenda_table.proofs.WidthLemmas.{six_places, wider_at}
use Rattle.agenda_table.proofs.widths.Widths.widen.Goals as goal

pub returns : goal.returns
returns c = λ rows are.
    six_places _ (wider_at rows c.args.row.now 0 _ _ (are 0 (omega arith)) c.wider.ensures)
    (wider_at rows c.args.row.now 1 _ _ (are 1 (omega arith)) c.wider-2.ensures)
    (wider_at rows c.args.row.now 2 _ _ (are 2 (omega arith)) c.wider-3.ensures)
    (wider_at rows c.args.row.now 3 _ _ (are 3 (omega arith)) c.wider-4.ensures)
    (wider_at rows c.args.row.now 4 _ _ (are 4 (omega arith)) c.wider-5.ensures)
    (wider_at rows c.args.row.now 5 _ _ (are 5 (omega arith)) c.wider-6.ensures)
