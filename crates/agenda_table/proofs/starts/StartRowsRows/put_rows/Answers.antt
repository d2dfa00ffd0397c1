use Rattle.std.proofs.Common.{◌≡◌, ◌≤◌, ◌<◌, ◌∙◌, ℕ, List, [], ◌∷◌, ◌++◌, ap, append-nil, arith, codes, false, get_or, length, nat_lt, refl, subst, sym, take, take_all, true}
use Rattle.std.proofs.lemmas.Bool.{le-ltb, lt-ltb}
use Rattle.std.specs.List.{flat_map}
use Rattle.std.specs.Prelude.{None}
use Rattle.plan_write.specs.Upcoming.{start_or_none}
use Rattle.agenda_table.specs.Rows.{distance_head, none_rows, rows_of_start, start_cells}
use Rattle.agenda_table.proofs.RowLemmas.{pieces_more}
use Rattle.agenda_table.proofs.starts.StartRowsRows.put_rows.Goals as goal

pub loop-start-preserved : goal.loop-start-preserved
loop-start-preserved g c =
    let table = c.args.self.now in
    let starts = table.starts.now in
    let i = c.loop-start.start-index in
    let head = start_cells (codes "START") (distance_head table.look.now.origin) in
    let row = λ (n : ℕ). rows_of_start table.look.now (start_or_none n) in
    let n : ℕ = get_or starts i 0 in
    subst (λ (rows : List (List (List ℕ))). g.K.RowSink.takes c.args.sink.now c.put_start.new.sink (head ∷ rows))
    (pieces_more row starts i n 0 c.loop-start-test.true refl)
    (g.met.K.RowSink.takes_both c.args.sink.now c.loop-start.sink c.put_start.new.sink (head ∷ flat_map row (take i starts)) (row n)
    c.loop-start.invariant c.put_start.ensures)

-- there are as many starts as requested
none_if_enough : (count found : ℕ) → count ≤ found → none_rows count found ≡ []
none_if_enough count found enough =
    let is : nat_lt found count ≡ false = le-ltb found count enough in rw is refl

-- there are fewer
none_if_fewer : (count found : ℕ) → found < count → none_rows count found ≡ start_cells (codes "none") None ∷ []
none_if_fewer count found fewer =
    let is : nat_lt found count ≡ true = lt-ltb found count fewer in rw is refl

pub returns-then-self : goal.returns-then-self
returns-then-self g c =
    let table = c.args.self.now in
    let starts = table.starts.now in
    let head = start_cells (codes "START") (distance_head table.look.now.origin) in
    let row = λ (n : ℕ). rows_of_start table.look.now (start_or_none n) in
    let none = none_if_enough table.count (length starts) (omega (arith, c.if-self.true)) in
    subst (λ (rows : List (List (List ℕ))). g.K.RowSink.takes c.args.sink.now c.loop-start.sink (head ∷ rows))
    (ap (flat_map row) (take_all c.loop-start.start-index starts c.loop-start-test.false) ∙ sym (append-nil (flat_map row starts))
    ∙ ap (λ (rows : List (List (List ℕ))). flat_map row starts ++ rows) (sym none))
    c.loop-start.invariant

pub returns : goal.returns
returns g c =
    let table = c.args.self.now in
    let starts = table.starts.now in
    let i = c.loop-start.start-index in
    let head = start_cells (codes "START") (distance_head table.look.now.origin) in
    let row = λ (n : ℕ). rows_of_start table.look.now (start_or_none n) in
    let last = start_cells (codes "none") None ∷ [] in
    let none = none_if_fewer table.count (length starts) (omega (arith, c.if-self.false)) in
    subst (λ (rows : List (List (List ℕ))). g.K.RowSink.takes c.args.sink.now c.put_cells-2.new.sink (head ∷ rows))
    ((λ k. flat_map row (take_all i starts c.loop-start-test.false k) ++ last)
    ∙ ap (λ (rows : List (List (List ℕ))). flat_map row starts ++ rows) (sym none))
    (g.met.K.RowSink.takes_both c.args.sink.now c.loop-start.sink c.put_cells-2.new.sink (head ∷ flat_map row (take i starts)) last
    c.loop-start.invariant c.put_cells-2.ensures)
