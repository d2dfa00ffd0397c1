use Rattle.std.proofs.Common.{◌≡◌, ◌∙◌, ◌∷◌, ℕ, List, ap, length}
use Rattle.std.specs.Prelude.{codes}
use Rattle.agenda_table.specs.Dates.{is_put_back_on}
use Rattle.agenda_table.specs.Last.{after_text}
use Rattle.agenda_table.specs.Rows.{start_rows}
use Rattle.agenda_commands.specs.Table.{look_of, text_of_rows}
use Rattle.agenda_commands.proofs.table.starts_table.Goals as goal

pub returns : goal.returns
returns c =
    let form = c.args.form.now in
    let starts = c.args.starts.items in
    let dates : List ℕ = c.in_ok-dates.dates.items in
    let after = c.min-shown.ensures in
    let look : c.new-look.result ≡ look_of form dates = c.new-look.ensures ∙ ap (look_of form) c.deref-2.ensures.value in
    let last = c.new.ensures ∙ c.in_ok-last.ensures
    ∙ (λ k. after_text (look k) (length (c.as_slice-found.ensures.value k)) (codes "start") (after k) (c.as_str-zone.ensures k)) in (
      dates,
      λ date.
          c.in_ok-dates.ensures date ∙ (λ k. is_put_back_on form.zone.clock (after k ∷ c.deref.ensures.value k) date),
      (λ k. text_of_rows form (start_rows (look_of form dates) c.args.count starts) (last k)),
    )
