use Rattle.agenda_commands.specs.Next.{valid_count}
use Rattle.agenda_answers.proofs.StepLemmas.{failed_first, flushed_after, ran_if, went_on}
use Rattle.agenda_answers.proofs.answers.next.Goals as goal

pub returns-in_err-zones-clause-ends : goal.returns-in_err-zones-clause-ends
returns-in_err-zones-clause-ends g c = failed_first _ _ _ c.in_err-zones.ensures.read c.from_residual.ensures.1

pub returns-in_err-format-clause-ends : goal.returns-in_err-format-clause-ends
returns-in_err-format-clause-ends g c =
    went_on _ c.in_ok-zones.ensures.read (failed_first _ _ _ c.in_err-format.ensures c.from_residual-in_err-format.ensures.1)

pub returns-clause-ends : goal.returns-clause-ends
returns-clause-ends g c =
    rw c.status_after.ensures (went_on _ c.in_ok-zones.ensures.read (went_on _ c.in_ok-format.ensures
    (ran_if (valid_count c.args.request.now.count) _ _ _ _ _ c.run_next.ensures.output c.run_next.ensures.bad_count)))

pub returns-clause-flushed : goal.returns-clause-flushed
returns-clause-flushed g c = rw c.status_after.ensures (flushed_after _ c.run_next.result c.run_next.ensures.flushed)
