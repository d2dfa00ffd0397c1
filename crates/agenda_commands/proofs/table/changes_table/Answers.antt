use Rattle.std.proofs.Common.{◌≡◌, ◌∙◌, ◌∷◌, ℕ, List, ap}
use Rattle.agenda_changes.specs.Last.{change_text}
use Rattle.agenda_changes.specs.Rows.{change_rows, change_times}
use Rattle.agenda_table.specs.Dates.{is_put_back_on}
use Rattle.agenda_commands.specs.Table.{look_of, text_of_rows}
use Rattle.agenda_commands.proofs.table.changes_table.Goals as goal

pub returns-clause-table : goal.returns-clause-table
returns-clause-table c =
    let form = c.args.form.now in
    let changes = c.args.changes.now in
    let dates : List ℕ = c.in_ok-dates.dates.items in
    let rows = c.in_ok-rows.ensures in
    let since = c.since-since.ensures.value in
    let upto = c.upto-upto.ensures.value in
    let look : c.new-look.result ≡ look_of form dates = c.new-look.ensures ∙ ap (look_of form) c.deref.ensures.value in
    let last = c.in_ok-last.ensures ∙ (λ k. change_text (look k) changes (since k) (upto k) (c.as_str-zone.ensures k)) in (
      changes,
      c.requires,
      dates,
      λ date.
          c.in_ok-dates.ensures date
          ∙ (λ k. is_put_back_on form.zone.clock (since k ∷ upto k ∷ change_times (rows k)) date),
      (λ k. text_of_rows form (change_rows (look_of form dates) (rows k)) (last k)),
    )
