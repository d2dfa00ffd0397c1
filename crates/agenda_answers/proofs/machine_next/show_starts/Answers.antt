use Rattle.std.proofs.Common.{inl, inr, refl}
use Rattle.std.proofs.KnownBytes.{Keeps-refl}
use Rattle.agenda_commands.specs.Next.{valid_count}
use Rattle.agenda_commands.specs.NextTable.{AnswersStarts}
use Rattle.agenda_answers.proofs.MachineLemmas.{told, told_off}
use Rattle.agenda_answers.proofs.StepLemmas.{answered_if}
use Rattle.agenda_answers.proofs.machine_next.show_starts.Goals as goal

pub returns-then-is_err-clause-answers : goal.returns-then-is_err-clause-answers
returns-then-is_err-clause-answers g c =
    inl (told_off _ _ c.write_reports.result c.is_err.result _ _ _ _ c.is_err.ensures.value c.if-is_err.true
    c.write_reports.ensures.text c.write_reports.ensures.spared)

pub returns-in-Ok-clause-answers : goal.returns-in-Ok-clause-answers
returns-in-Ok-clause-answers g c =
    inr (
      _,
      told _ c.write_reports.result c.is_err.result _ _ _ c.is_err.ensures.value c.if-is_err.false c.write_reports.ensures.text,
      (
        c.run_next_form.result,
        answered_if (valid_count c.args.request.now.count) (AnswersStarts c.args.starts.now.form c.args.starts.now.zones
            c.args.request.now.rule c.args.starts.now.after c.args.request.now.count) _ _ _ _
            (rw c.from-count.ensures at c.run_next_form.ensures.output)
            (rw c.from-count.ensures at c.run_next_form.ensures.bad_count),
        rw c.in-Ok.is (refl, Keeps-refl _),
      ),
    )

pub returns-in-Err-clause-answers : goal.returns-in-Err-clause-answers
returns-in-Err-clause-answers g c =
    inr (
      _,
      told _ c.write_reports.result c.is_err.result _ _ _ c.is_err.ensures.value c.if-is_err.false c.write_reports.ensures.text,
      (
        c.run_next_form.result,
        answered_if (valid_count c.args.request.now.count) (AnswersStarts c.args.starts.now.form c.args.starts.now.zones
            c.args.request.now.rule c.args.starts.now.after c.args.request.now.count) _ _ _ _
            (rw c.from-count.ensures at c.run_next_form.ensures.output)
            (rw c.from-count.ensures at c.run_next_form.ensures.bad_count),
        rw c.in-Err.is c.report_fault.ensures.exits,
      ),
    )
