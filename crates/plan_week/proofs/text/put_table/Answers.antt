-- The writer takes the head, the rows, the row of all days and the last line.
use Rattle.std.proofs.Common.{◌≡◌, ◌++◌, List, ℕ, append_assoc, refl}
use Rattle.std.specs.List.{flat_map}
use Rattle.plan_streams.proofs.StreamLemmas.{takes_both}
use Rattle.plan_week.specs.Texts.{all_row, day_row, head_text, last_line}
use Rattle.plan_week.proofs.text.put_table.Goals as goal

regroup : (a b c d : List ℕ) → ((a ++ b) ++ c) ++ d ≡ a ++ (b ++ (c ++ d))
regroup a b c d = simp append_assoc

pub returns : goal.returns
returns g c =
    let holds = g.S.Stream.holds in
    let all = g.S.Stream.takes_all in
    let old = c.args.lines.now in
    let rows = flat_map day_row c.args.days.now in
    let sums = all_row c.args.days.now in
    let end = last_line c.args.local.now c.args.agenda.now in
    let two = takes_both holds all old c.put_head.new.lines c.put_day_rows.new.lines head_text rows (head_text ++ rows) c.put_head.ensures
    c.put_day_rows.ensures refl in
    let three = takes_both holds all old c.put_day_rows.new.lines c.put_all_row.new.lines (head_text ++ rows) sums
    ((head_text ++ rows) ++ sums) two c.put_all_row.ensures refl in
    takes_both holds all old c.put_all_row.new.lines c.put_last.new.lines ((head_text ++ rows) ++ sums) end _ three c.put_last.ensures
    (regroup head_text rows sums end)
