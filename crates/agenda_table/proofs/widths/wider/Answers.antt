use Rattle.std.proofs.Common.{◌≡◌, [], arith, get_or, length, sym}
use Rattle.std.proofs.lemmas.Bool.{ltb-false}
use Rattle.std.proofs.lemmas.List.{get_or_past}
use Rattle.agenda_table.specs.Layout.{width}
use Rattle.agenda_table.proofs.WidthLemmas.{width_none}
use Rattle.agenda_table.proofs.widths.wider.Goals as goal

pub returns-in-None : goal.returns-in-None
returns-in-None c =
    let none : get_or c.args.row.now c.args.place [] ≡ [] = get_or_past c.args.row.now c.args.place []
    (ltb-false c.args.place (length c.args.row.now) (sym c.in-None.ensures.lookup.0)) in
    let zero : width (get_or c.args.row.now c.args.place []) ≡ 0 = width_none (get_or c.args.row.now c.args.place []) none in
    omega arith
