-- The widths of the columns of a table (agenda).
use Rattle.std.specs.Prelude.{◌≡◌, ℕ, ◌<◌, List, [], ◌++◌, get_or, if◌then◌else◌, nat_lt}
use Rattle.std.proofs.Common.{append-nil, append_assoc, subst, sym}
use Rattle.agenda_table.specs.Layout.{widest}
use Rattle.agenda_table.specs.declared.widths.Widths.{Widths}

-- the width that is kept for the column at a place, of which there are 6
abbrev pub width_at : Widths → ℕ → ℕ
width_at widths place = if nat_lt place 6 then get_or widths.most place 0 else 0

-- these are the widths of the columns of these rows, as far as a row has cells
abbrev pub AreWidest : List (List (List ℕ)) → Widths → Type 0
AreWidest rows widths = (place : ℕ) → place < 6 → width_at widths place ≡ widest rows place

-- the widths are those of more rows
abbrev pub WidensBy : (old new : Widths) → List (List (List ℕ)) → Type 0
WidensBy old new rows = (before : List (List (List ℕ))) → AreWidest before old → AreWidest (before ++ rows) new

pub widens_none : (a : Widths) → WidensBy a a []
widens_none a = λ before are. subst (λ (rows : List (List (List ℕ))). AreWidest rows a) (sym (append-nil before)) are

pub widens_both :
    (a b c : Widths) (xs ys : List (List (List ℕ))) → WidensBy a b xs → WidensBy b c ys → WidensBy a c (xs ++ ys)
widens_both a b c xs ys first second = λ before are.
    subst (λ (rows : List (List (List ℕ))). AreWidest rows c) (append_assoc before xs ys) (second (before ++ xs) (first before are))
