-- A row that is put cell by cell.
use Rattle.std.proofs.Common.{◌≡◌, ℕ, suc, ◌+◌, ◌<◌, ◌≤◌, Bool, List, [], ◌∷◌, ◌++◌, length, drop, get_or, replicate, Option, ap, sym, subst, ◌∙◌, arith}
use Rattle.std.proofs.Math.Seq.{drop-cons}
use Rattle.std.proofs.lemmas.List.{drop_all}
use Rattle.plan_streams.proofs.StreamLemmas.{takes_both}
use Rattle.plan_streams.specs.Writer.{Takes}
use Rattle.plan_streams.specs.declared.writer.TextWriter.{TextWriter}
use Rattle.agenda_table.specs.Layout.{columns_from, gap, joined, width}
use Rattle.agenda_table.specs.Room.{kept, room_behind, shown_bytes}
use Rattle.agenda_table.specs.declared.room.Room.{Room}
use Rattle.agenda_table.proofs.RoomLemmas.{kept_both, shown_both}

-- what a line has room for of a text, and then of the next
pub takes_kept :
    {S : Type 0} (holds : S → Option (List ℕ)) (takes_all terminal : Bool) (a b c : TextWriter S) (start room : Room) (done text : List ℕ) →
    Takes holds takes_all a b (shown_bytes terminal (kept start done)) → room ≡ room_behind start done →
    Takes holds takes_all b c (shown_bytes terminal (kept room text)) →
    Takes holds takes_all a c (shown_bytes terminal (kept start (done ++ text)))
takes_kept holds takes_all terminal a b c start room done text so_far is next =
    takes_both holds takes_all a b c (shown_bytes terminal (kept start done))
    (shown_bytes terminal (kept (room_behind start done) text)) (shown_bytes terminal (kept start (done ++ text))) so_far
    (subst (λ (room : Room). Takes holds takes_all b c (shown_bytes terminal (kept room text))) is next)
    (sym (shown_both terminal (kept start done) (kept (room_behind start done) text))
    ∙ ap (shown_bytes terminal) (sym (kept_both start done text)))

-- the cells from a place on are the one there, and those from the next place on
row_next :
    (place : ℕ) (row : List (List ℕ)) (cell : List ℕ) → place < length row → cell ≡ get_or row place cell →
    drop place row ≡ cell ∷ drop (place + 1) row
row_next place row cell lt is =
    let next : suc place ≡ place + 1 = omega arith in
    drop-cons row place cell lt ∙ ap (λ (c : List ℕ). c ∷ drop (suc place) row) (sym is)
    ∙ ap (λ (n : ℕ). cell ∷ drop n row) next

-- so they are joined: the cell, the blanks after it, and the others
pub joined_next :
    (widths : ℕ → ℕ) (last place : ℕ) (row : List (List ℕ)) (cell : List ℕ) → place < length row → cell ≡ get_or row place cell →
    joined widths last place (drop place row)
    ≡ cell ++ (replicate (gap widths last place cell) 32 ++ joined widths last (place + 1) (drop (place + 1) row))
unfolding joined
joined_next widths last place row cell lt is = ap (joined widths last place) (row_next place row cell lt is)

pub columns_next :
    (widths : ℕ → ℕ) (last place : ℕ) (row : List (List ℕ)) (cell : List ℕ) → place < length row → cell ≡ get_or row place cell →
    columns_from widths last place (drop place row)
    ≡ width cell + (gap widths last place cell + columns_from widths last (place + 1) (drop (place + 1) row))
unfolding columns_from
columns_next widths last place row cell lt is = ap (columns_from widths last place) (row_next place row cell lt is)

-- after the last cell nothing is left
pub joined_end :
    (widths : ℕ → ℕ) (last place : ℕ) (row : List (List ℕ)) → length row ≤ place → joined widths last place (drop place row) ≡ []
unfolding joined
joined_end widths last place row all = ap (joined widths last place) (drop_all place row all)

pub columns_end :
    (widths : ℕ → ℕ) (last place : ℕ) (row : List (List ℕ)) → length row ≤ place → columns_from widths last place (drop place row) ≡ 0
unfolding columns_from
columns_end widths last place row all = ap (columns_from widths last place) (drop_all place row all)
