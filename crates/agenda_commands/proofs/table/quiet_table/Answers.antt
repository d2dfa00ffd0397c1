use Rattle.std.proofs.Common.{◌≡◌, ◌∙◌, ◌∷◌, ℕ, List, ap, length}
use Rattle.std.specs.Prelude.{codes}
use Rattle.agenda_table.specs.Dates.{gap_times, is_put_back_on}
use Rattle.agenda_table.specs.Last.{span_text}
use Rattle.agenda_table.specs.Rows.{gap_rows}
use Rattle.agenda_commands.specs.Table.{look_of, text_of_rows}
use Rattle.agenda_commands.proofs.table.quiet_table.Goals as goal

pub returns-clause-table : goal.returns-clause-table
returns-clause-table c =
    let form = c.args.form.now in
    let dates : List ℕ = c.in_ok-dates.dates.items in
    let gaps = c.in_ok-gaps.ensures in
    let since = c.since-since.ensures.value in
    let upto = c.upto-upto.ensures.value in
    let look : c.new-look.result ≡ look_of form dates = c.new-look.ensures ∙ ap (look_of form) c.deref.ensures.value in
    let found = c.as_slice.ensures.gaps ∙ gaps in
    let last = c.new-2.ensures ∙ c.in_ok-last.ensures
    ∙ (λ k. span_text (look k) (length (found k)) (codes "gap") (since k) (upto k) (c.as_str-zone.ensures k)) in (
      dates,
      λ date.
          c.in_ok-dates.ensures date
          ∙ (λ k. is_put_back_on form.zone.clock (since k ∷ upto k ∷ gap_times (gaps k)) date),
      (λ k. text_of_rows form (gap_rows (look_of form dates) (gaps k)) (last k)),
    )
