-- The file was read whole, or what was read of it means the same (`steps_left`).
use Rattle.agenda_answers.proofs.StepLemmas.{failed_first, flushed_after, ran_by}
use Rattle.agenda_answers.proofs.ScriptLemmas.{steps_left}
use Rattle.agenda_answers.proofs.answers.steps.Goals as goal

pub returns-in_err-script-clause-ends : goal.returns-in_err-script-clause-ends
returns-in_err-script-clause-ends g c = failed_first _ _ _ (rw c.as_str.ensures at c.in_err-script.ensures.read) c.from_residual.ensures.1

pub returns-clause-ends : goal.returns-clause-ends
returns-clause-ends g c =
    rw c.status_after.ensures (steps_left (g.F.Files.held c.args.files.now) c.args.file.now _ _ _ _ _
    (rw c.as_str.ensures at c.in_ok-script.ensures.read)
    (ran_by _ _ _ _ _ _ (rw c.as_slice.ensures at c.run_script.ensures.written) (rw c.as_slice.ensures at c.run_script.ensures.failed)))

pub returns-clause-flushed : goal.returns-clause-flushed
returns-clause-flushed g c = rw c.status_after.ensures (flushed_after _ c.run_script.result c.run_script.ensures.flushed)
