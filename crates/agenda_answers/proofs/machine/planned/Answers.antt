use Rattle.std.proofs.Common.{◌≡◌, Ok, Err, refl}
use Rattle.std.specs.Option.{option_map}
use Rattle.agenda_faults.specs.declared.faults.Failure.TheVariants.{Run}
use Rattle.agenda_faults.specs.declared.faults.RunFault.TheVariants.{NoMemory}
use Rattle.agenda_commands.specs.Form.{AnswersForm}
use Rattle.agenda_inputs.specs.Steps.{goes, stops}
use Rattle.agenda_inputs.proofs.StepLemmas.{failed}
use Rattle.agenda_commands.specs.Goal.{finds_any}
use Rattle.agenda_answers.proofs.MachineLemmas.{first_error, lent_files, remark_same, said_parts}
use Rattle.agenda_answers.proofs.OutcomeLemmas.{found_parts, settled_failure, settled_parts}
use Rattle.agenda_answers.proofs.machine.planned.Goals as goal

pub returns-in_err-files : goal.returns-in_err-files
returns-in_err-files g c =
    failed _ (Run NoMemory) (stops (Run NoMemory) refl refl) c.from_residual.ensures.1

pub returns-in_err-made : goal.returns-in_err-made
returns-in_err-made g c =
    let Answers = AnswersForm (option_map (λ f. f.items) c.in_ok-files.files) c.args.output.form in
    let made = c.prepare_remarked-made in
    let bad = first_error c.args.output.goal.now (λ fault. made.result ≡ Err fault) made.ensures.at_once in
    failed _ _ (goes _ (rw c.needs_files-needed.ensures at c.in_ok-files.ensures)
    (settled_failure Answers c.args.output.goal.now (Ok c.args.kept) made.result _ bad c.in_err-made.ensures))
    c.from_residual-in_err-made.ensures.1

pub returns-in_err-remark : goal.returns-in_err-remark
returns-in_err-remark g c =
    let files = lent_files _ _ c.as_deref.ensures.cases in
    let Answers = AnswersForm (option_map (λ f. f.items) c.in_ok-files.files) c.args.output.form in
    let made = c.prepare_remarked-made in
    goes _ (goes _ (rw c.needs_files-needed.ensures at c.in_ok-files.ensures)
    (settled_parts Answers c.args.output.goal.now (Ok c.args.kept) made.result c.in_ok-made.made
    (rw files at made.ensures.answer) c.in_ok-made.ensures))
    (goes _ refl (failed _ (Run NoMemory) refl c.from_residual-in_err-remark.ensures.1))

pub returns : goal.returns
returns g c =
    let files = lent_files _ _ c.as_deref.ensures.cases in
    let Answers = AnswersForm (option_map (λ f. f.items) c.in_ok-files.files) c.args.output.form in
    let made = c.prepare_remarked-made in
    let said = said_parts c.args.output.goal.now c.args.kept made.result c.in_ok-made.made made.ensures.remark c.in_ok-made.ensures in
    let found = found_parts (finds_any c.args.output.goal.now c.args.kept) made.result c.in_ok-made.made made.ensures.finds c.in_ok-made.ensures in
    goes _ (goes _ (rw c.needs_files-needed.ensures at c.in_ok-files.ensures)
    (settled_parts Answers c.args.output.goal.now (Ok c.args.kept) made.result c.in_ok-made.made
    (rw files at made.ensures.answer) c.in_ok-made.ensures))
    (goes c.jobs_status-status.result (rw (
      c.jobs_status-status.ensures,
      c.status_of-status.ensures,
      c.are_warnings.ensures,
      c.as_slice.ensures.value,
      c.parted-answer.ensures,
      found,
    ) refl)
    (goes _ (remark_same c.args.output.goal.now _ _ _ _ _ _ _ _ c.in_ok-remark.ensures
    (rw (← c.parted-answer.ensures) c.is_ok.ensures.value)
    (rw c.parted-answer.ensures said)
    refl)
    (rw (c.new.ensures, c.in_words.ensures, c.parted-answer.ensures) refl)))
