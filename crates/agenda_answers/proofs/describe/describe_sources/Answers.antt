use Rattle.std.proofs.Common.{Ok, Err, refl}
use Rattle.agenda_faults.specs.declared.faults.Failure.TheVariants.{Run}
use Rattle.agenda_faults.specs.declared.faults.RunFault.TheVariants.{NoMemory}
use Rattle.agenda_inputs.specs.Steps.{goes}
use Rattle.agenda_answers.proofs.OutcomeLemmas.{described_answer, kept_fails, kept_made}
use Rattle.agenda_inputs.proofs.StepLemmas.{failed}
use Rattle.agenda_answers.proofs.describe.describe_sources.Goals as goal

pub returns-in_err-tried : goal.returns-in_err-tried
returns-in_err-tried g c = failed _ _ c.in_err-tried.ensures.read c.from_residual.ensures.1

pub returns-in_err-errors : goal.returns-in_err-errors
returns-in_err-errors g c =
    goes _ c.in_ok-tried.ensures.read (failed _ (Run NoMemory)
    (kept_fails c.args.jobs.now.keep_going c.in_ok-tried.zones c.in_ok-tried.tried.sources c.in_err-errors.ensures.spared)
    c.from_residual-in_err-errors.ensures.1)

pub returns-in_err-answer : goal.returns-in_err-answer
returns-in_err-answer g c =
    goes _ c.in_ok-tried.ensures.read (goes _
    (kept_made c.args.jobs.now.keep_going c.in_ok-tried.zones c.in_ok-tried.tried.sources _ _ c.in_ok-errors.ensures.errors
    c.in_ok-errors.ensures.jobs)
    (failed _ _ (described_answer _ c.prepare_description-made.result (Err _) c.prepare_description-made.ensures.answer c.in_err-answer.ensures)
    c.from_residual-in_err-answer.ensures.1))

pub returns : goal.returns
returns g c =
    goes _ c.in_ok-tried.ensures.read (goes _
    (kept_made c.args.jobs.now.keep_going c.in_ok-tried.zones c.in_ok-tried.tried.sources _ _ c.in_ok-errors.ensures.errors
    c.in_ok-errors.ensures.jobs)
    (goes _ (described_answer _ c.prepare_description-made.result (Ok c.in_ok-answer.answer) c.prepare_description-made.ensures.answer
    c.in_ok-answer.ensures)
    (rw (c.skipped_status-status.ensures, c.as_slice.ensures, c.as_slice-2.ensures.value) refl)))
