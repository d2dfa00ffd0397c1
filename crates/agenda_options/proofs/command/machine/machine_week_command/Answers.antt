use Rattle.std.proofs.Common.{◌∙◌, ◌++◌, ◌∷◌, ap, codes}
use Rattle.std.proofs.lemmas.Result.{IfOk-weaker}
use Rattle.clap.specs.Words.{App}
use Rattle.agenda_options.specs.Command.{choice_rules, flag_option, machine_size_rules, machine_week, with_each, with_machine_times}
use Rattle.agenda_options.proofs.command.machine.machine_week_command.Goals as goal

pub returns-clause-app : goal.returns-clause-app
unfolding machine_week
returns-clause-app c =
    let with_the_span =
    c.in_ok-command.ensures.app ∙ ap (with_machine_times (codes "today") (codes "+7d")) c.new_subcommand-command.ensures.app in
    IfOk-weaker c.with_arguments.result _ _ (λ new is. is ∙ ap (λ (app : App). with_each app
    (choice_rules ++ flag_option (codes "strict") ∷ flag_option (codes "json") ∷ machine_size_rules)) with_the_span)
    c.with_arguments.ensures.app
