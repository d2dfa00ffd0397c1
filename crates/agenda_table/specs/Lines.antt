-- The lines of rows that a writer takes (agenda).
use Rattle.std.specs.Prelude.{◌≡◌, ℕ, Bool, List, [], ◌++◌, Option, refl}
use Rattle.std.specs.List.{flat_map}
use Rattle.std.proofs.Common.{sym, subst, ◌∙◌}
use Rattle.std.proofs.lemmas.Grind.{flat_map-append}
use Rattle.plan_streams.specs.Writer.{Takes}
use Rattle.plan_streams.proofs.StreamLemmas.{takes_both, takes_none}
use Rattle.agenda_table.specs.Layout.{line_text}
use Rattle.agenda_table.specs.Widths.{width_at}
use Rattle.agenda_table.specs.declared.line.Frame.{Frame}
use Rattle.agenda_table.specs.declared.table.Lines.{Lines}
use Rattle.agenda_table.specs.declared.widths.Widths.{Widths}

-- the lines of rows, in a frame and with these widths
abbrev pub lines_text : Frame → Widths → List (List (List ℕ)) → List ℕ
lines_text frame widths rows = flat_map (line_text frame.columns frame.terminal (width_at widths)) rows

-- the writer took the lines of these rows
abbrev pub TakesRows : {S : Type 0} → (S → Option (List ℕ)) → Bool → (old new : Lines S) → List (List (List ℕ)) → Type 0
TakesRows holds takes_all old new rows =
    (new.widths ≡ old.widths) × (new.frame ≡ old.frame) × Takes holds takes_all old.lines new.lines (lines_text old.frame old.widths rows)

pub takes_rows_none : {S : Type 0} (holds : S → Option (List ℕ)) (takes_all : Bool) (a : Lines S) → TakesRows holds takes_all a a []
takes_rows_none holds takes_all a = (refl, refl, takes_none holds takes_all a.lines)

pub takes_rows_both :
    {S : Type 0} (holds : S → Option (List ℕ)) (takes_all : Bool) (a b c : Lines S) (xs ys : List (List (List ℕ))) →
    TakesRows holds takes_all a b xs → TakesRows holds takes_all b c ys → TakesRows holds takes_all a c (xs ++ ys)
takes_rows_both holds takes_all a b c xs ys first second =
    let frame = first.1 in
    let widths = first.0 in
    let next : lines_text b.frame b.widths ys ≡ lines_text a.frame a.widths ys = λ i. lines_text (frame i) (widths i) ys in (
      second.0 ∙ first.0,
      second.1 ∙ first.1,
      takes_both holds takes_all a.lines b.lines c.lines (lines_text a.frame a.widths xs) (lines_text a.frame a.widths ys)
          (lines_text a.frame a.widths (xs ++ ys)) first.2
          (subst (λ (text : List ℕ). Takes holds takes_all b.lines c.lines text) next second.2)
          (sym (flat_map-append (line_text a.frame.columns a.frame.terminal (width_at a.widths)) xs ys)),
    )
