use Rattle.std.proofs.Common.{◌∙◌, ap, codes}
use Rattle.std.proofs.lemmas.Result.{IfOk-weaker}
use Rattle.clap.specs.Words.{App, with_rule}
use Rattle.agenda_options.specs.Command.{moment_option, upcoming, with_jobs}
use Rattle.agenda_options.proofs.command.upcoming_command.Goals as goal

pub returns-clause-app : goal.returns-clause-app
unfolding upcoming
returns-clause-app c =
    let after = c.in_ok-command.ensures.app
    ∙ ap (λ (app : App). with_rule app (moment_option (codes "after"))) c.new_subcommand-command.ensures.app in
    IfOk-weaker c.with_jobs.result _ _ (λ new is. is ∙ ap with_jobs after) c.with_jobs.ensures.app
