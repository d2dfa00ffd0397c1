use Rattle.std.proofs.Common.{◌≡◌, ◌∙◌, ◌∷◌, ℕ, List, ap}
use Rattle.std.specs.Prelude.{codes}
use Rattle.agenda_table.specs.Dates.{is_put_back_on, job_times}
use Rattle.agenda_table.specs.Last.{span_text}
use Rattle.agenda_table.specs.Rows.{job_rows}
use Rattle.agenda_commands.specs.Table.{look_of, text_of_rows}
use Rattle.agenda_commands.proofs.table.plan_table.Goals as goal

pub returns-clause-table : goal.returns-clause-table
returns-clause-table c =
    let form = c.args.form.now in
    let agenda = c.args.agenda in
    let delays = c.args.delays in
    let dates : List ℕ = c.in_ok-dates.dates.items in
    let cells = c.in_ok-cells.ensures in
    let since = c.since-since.ensures.value in
    let upto = c.upto-upto.ensures.value in
    let look : c.new-look.result ≡ look_of form dates = c.new-look.ensures ∙ ap (look_of form) c.deref.ensures.value in
    let last = c.new.ensures ∙ c.in_ok-last.ensures
    ∙ (λ k. span_text (look k) (c.len.ensures k) (codes "start") (since k) (upto k) (c.as_str-zone.ensures k)) in (
      dates,
      λ date.
          c.in_ok-dates.ensures date
          ∙ (λ k. is_put_back_on form.zone.clock (since k ∷ upto k ∷ job_times delays (c.entries.ensures.entries k) (cells k)) date),
      (λ k. text_of_rows form (job_rows (look_of form dates) delays agenda.entries (cells k)) (last k)),
    )
