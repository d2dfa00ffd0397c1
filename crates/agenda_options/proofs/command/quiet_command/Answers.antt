use Rattle.std.proofs.Common.{◌∙◌, ap, codes}
use Rattle.std.proofs.lemmas.Result.{IfOk-weaker}
use Rattle.clap.specs.Words.{App, with_rule}
use Rattle.agenda_options.specs.Command.{number_option, quiet, with_jobs, with_sizes, with_span}
use Rattle.agenda_options.proofs.command.quiet_command.Goals as goal

pub returns-clause-app : goal.returns-clause-app
unfolding quiet with_sizes
returns-clause-app c =
    let with_the_span = c.in_ok-command.ensures.app ∙ ap with_span c.new_subcommand-command.ensures.app in
    let with_the_jobs = c.in_ok-command-2.ensures.app ∙ ap with_jobs with_the_span in
    let the_rest = λ (app : App). with_sizes (with_rule app (number_option (codes "least") (codes "1800"))) (codes "1000000") in
    IfOk-weaker c.with_arguments.result _ _ (λ new is. is ∙ ap the_rest with_the_jobs) c.with_arguments.ensures.app
