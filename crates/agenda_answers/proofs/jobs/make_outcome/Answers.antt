use Rattle.std.proofs.Common.{Ok, refl}
use Rattle.agenda_commands.specs.Prepare.{jobs_or}
use Rattle.agenda_faults.specs.declared.faults.Failure.TheVariants.{Run}
use Rattle.agenda_faults.specs.declared.faults.RunFault.TheVariants.{NoMemory}
use Rattle.agenda_inputs.specs.Steps.{goes}
use Rattle.agenda_commands.specs.Goal.{AnswersGoal, finds_in}
use Rattle.agenda_answers.proofs.OutcomeLemmas.{found_parts, kept_fails, kept_made, settled_failure, settled_parts}
use Rattle.agenda_inputs.proofs.StepLemmas.{failed}
use Rattle.agenda_answers.proofs.jobs.make_outcome.Goals as goal

pub returns-in_err-tried-clause-made : goal.returns-in_err-tried-clause-made
returns-in_err-tried-clause-made g c = failed _ _ c.in_err-tried.ensures.read c.from_residual.ensures.1

pub returns-in_err-format-clause-made : goal.returns-in_err-format-clause-made
returns-in_err-format-clause-made g c =
    goes _ c.in_ok-tried.ensures.read (failed _ _ c.in_err-format.ensures c.from_residual-in_err-format.ensures.1)

pub returns-in_err-errors-clause-made : goal.returns-in_err-errors-clause-made
returns-in_err-errors-clause-made g c =
    goes _ c.in_ok-tried.ensures.read (goes _ c.in_ok-format.ensures (failed _ (Run NoMemory)
    (kept_fails c.args.jobs.now.keep_going c.in_ok-tried.zones c.in_ok-tried.tried.sources c.in_err-errors.ensures.spared)
    c.from_residual-in_err-errors.ensures.1))

pub returns-in_err-made-clause-made : goal.returns-in_err-made-clause-made
returns-in_err-made-clause-made g c =
    goes _ c.in_ok-tried.ensures.read (goes _ c.in_ok-format.ensures (goes _
    (kept_made c.args.jobs.now.keep_going c.in_ok-tried.zones c.in_ok-tried.tried.sources _ _ c.in_ok-errors.ensures.errors
    c.in_ok-errors.ensures.jobs)
    (failed _ _ (settled_failure (AnswersGoal c.in_ok-format.format) c.args.goal.now
    (jobs_or c.in_ok-errors.kept c.in_ok-tried.zones c.in_ok-tried.tried.sources) c.prepare_answer-made.result _
    c.prepare_answer-made.ensures.bad_least c.in_err-made.ensures)
    c.from_residual-in_err-made.ensures.1)))

pub returns-clause-made : goal.returns-clause-made
returns-clause-made g c =
    let jobs = jobs_or c.in_ok-errors.kept c.in_ok-tried.zones c.in_ok-tried.tried.sources in
    let made = c.prepare_answer-made in
    let found = found_parts (finds_in c.args.goal.now jobs) made.result c.in_ok-made.made made.ensures.finds c.in_ok-made.ensures in
    goes _ c.in_ok-tried.ensures.read (goes _ c.in_ok-format.ensures (goes _
    (kept_made c.args.jobs.now.keep_going c.in_ok-tried.zones c.in_ok-tried.tried.sources _ _ c.in_ok-errors.ensures.errors
    c.in_ok-errors.ensures.jobs)
    (goes _ (settled_parts (AnswersGoal c.in_ok-format.format) c.args.goal.now jobs made.result c.in_ok-made.made made.ensures.answer
    c.in_ok-made.ensures)
    (rw (
      c.found_status-status.ensures,
      c.parted-answer.ensures,
      c.skipped_status-status.ensures,
      c.as_slice.ensures,
      c.as_slice-2.ensures.value,
      found,
    ) refl))))
