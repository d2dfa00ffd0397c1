-- The widths after all rows are those of the table.
use Rattle.std.proofs.Common.{◌≡◌, ℕ, ◌≤◌, Bool, true, false, List, [], ◌∷◌, arith, get_or, length, nat_le, nat_lt, refl, sym}
use Rattle.std.specs.List.{list_all}
use Rattle.std.proofs.lemmas.Bool.{and_parts, leb-true, ltb-false, ltb-true}
use Rattle.std.proofs.lemmas.List.{get_or_past}
use Rattle.agenda_table.specs.Layout.{AreShort, width, widest}
use Rattle.agenda_table.specs.Widths.{AreWidest, width_at}
use Rattle.agenda_table.specs.declared.widths.Widths.{Widths}
use Rattle.agenda_table.proofs.WidthLemmas.{width_none}

-- where no row has a cell the width is 0
widest_past : (rows : List (List (List ℕ))) → AreShort rows → (place : ℕ) → 6 ≤ place → widest rows place ≡ 0
unfolding widest
widest_past [] short place past = refl
widest_past (row ∷ rows) short place past =
    let parts = and_parts (nat_le (length row) 6) (list_all (λ (row : List (List ℕ)). nat_le (length row) 6) rows) short in
    let few : length row ≤ 6 = leb-true (length row) 6 parts.0 in
    let later : widest rows place ≡ 0 = widest_past rows parts.1 place past in
    let here : width (get_or row place []) ≡ 0 = width_none (get_or row place []) (get_or_past row place [] (omega arith)) in
    omega (arith, later, here)

at_place :
    (b : Bool) (rows : List (List (List ℕ))) (widths : Widths) (place : ℕ) → nat_lt place 6 ≡ b → AreShort rows → AreWidest rows widths →
    width_at widths place ≡ widest rows place
at_place true rows widths place is short are = are place (ltb-true place 6 is)
at_place false rows widths place is short are = rw is (sym (widest_past rows short place (ltb-false place 6 is)))

-- the widths of all columns
pub widths_whole :
    (rows : List (List (List ℕ))) (widths : Widths) → AreShort rows → AreWidest rows widths → width_at widths ≡ widest rows
widths_whole rows widths short are = λ i place. at_place (nat_lt place 6) rows widths place refl short are i
