use Rattle.std.proofs.Common.{inl, inr}
use Rattle.agenda_answers.proofs.MachineLemmas.{told, told_off}
use Rattle.agenda_answers.proofs.machine_answer.show.Goals as goal

pub returns-then-is_err-clause-answers : goal.returns-then-is_err-clause-answers
returns-then-is_err-clause-answers g c =
    rw (← c.answer.view_is) (inl (told_off _ _ c.report_site.result c.is_err.result _ _ _ _ c.is_err.ensures.value c.if-is_err.true
    c.report_site.ensures.text c.report_site.ensures.spared))

pub returns-clause-answers : goal.returns-clause-answers
returns-clause-answers g c =
    rw (← c.answer.view_is) (inr (
      _,
      told _ c.report_site.result c.is_err.result _ _ _ c.is_err.ensures.value c.if-is_err.false
          c.report_site.ensures.text,
      c.show_rest.ensures.answers,
    ))
