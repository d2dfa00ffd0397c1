use Rattle.std.proofs.Common.{◌∙◌, ◌++◌, ◌∷◌, ap, codes}
use Rattle.std.proofs.lemmas.Result.{IfOk-weaker}
use Rattle.clap.specs.Words.{App}
use Rattle.agenda_options.specs.Command.{choice_rules, flag_option, machine_downtime, machine_form_rules, machine_size_rules, with_each, with_machine_span}
use Rattle.agenda_options.proofs.command.machine.machine_downtime_command.Goals as goal

pub returns-clause-app : goal.returns-clause-app
unfolding machine_downtime
returns-clause-app c =
    let with_the_span = c.in_ok-command.ensures.app ∙ ap with_machine_span c.new_subcommand-command.ensures.app in
    IfOk-weaker c.with_arguments.result _ _ (λ new is. is ∙ ap (λ (app : App). with_each app
    (choice_rules ++ flag_option (codes "strict") ∷ machine_form_rules ++ machine_size_rules)) with_the_span)
    c.with_arguments.ensures.app
