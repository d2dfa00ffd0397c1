-- Answers the one clause of `asked_by_machine`; its definition is unfolded to clap's errors.
-- If clap accepts, the list of errors is empty. The hard case is that clap rejects. Then its kind of error is
-- out of memory or one of that list, and all kinds of the list are answered in the same way (`machine_alike`).
use Rattle.std.proofs.Common.{◌≡◌, ◌∙◌, ◌⊎◌, [], ap, map, sym, subst, string_bytes}
use Rattle.clap.specs.Faults.{fault_of}
use Rattle.clap.specs.Kinds.{IsAmong}
use Rattle.clap.specs.Words.{App, app_of, is_simple, is_simple_and_free, kind_of, subcommand_of, subcommand_rows_of}
use Rattle.clap.specs.declared.error.kind.ErrorKind.TheVariants as kind
use Rattle.agenda_options.specs.Command.{machine}
use Rattle.agenda_arguments.specs.Machine.{asked_by_machine, asked_by_question}
use Rattle.agenda_arguments.proofs.FaultLemmas.{machine_alike, machine_is_free, machine_is_simple, rejected}
use Rattle.agenda_arguments.proofs.machine.asked_by_machine.Goals as goal

pub returns-in-Ok : goal.returns-in-Ok
unfolding asked_by_machine
returns-in-Ok c =
    let words = map string_bytes c.args.words.now in
    let app_is : app_of c.in_ok-command.command ≡ machine = c.in_ok-command.ensures in
    let accepted : fault_of machine words ≡ [] = ap (λ (a : App). fault_of a words) (sym app_is) ∙
    c.in-Ok.ensures.kinds (ap is_simple_and_free app_is ∙ machine_is_free) in
    let met : subcommand_rows_of c.in-Ok.matches ≡ subcommand_of machine words =
    (c.in-Ok.ensures.matches (ap is_simple app_is ∙ machine_is_simple)).1 ∙ ap (λ (a : App). subcommand_of a words) app_is in
    rw (accepted, ← met) c.asked_by_question.ensures

pub returns-in_ok-usage_fault-in-Err : goal.returns-in_ok-usage_fault-in-Err
unfolding asked_by_machine
returns-in_ok-usage_fault-in-Err c =
    let words = map string_bytes c.args.words.now in
    let app_is : app_of c.in_ok-command.command ≡ machine = c.in_ok-command.ensures in
    let error = c.in-Err.error in
    let kinds = subst (λ (a : App). (kind_of error ≡ kind.OutOfMemory) ⊎ IsAmong (kind_of error) (fault_of a words)) app_is
    (c.in-Err.ensures.kinds (ap is_simple_and_free app_is ∙ machine_is_free)) in
    rejected (fault_of machine words) (machine_alike words) (kind_of error) c.in_ok-usage_fault-in-Err.field-0
    (asked_by_question (subcommand_of machine words)) c.in_ok-usage_fault-in-Err.ensures kinds
