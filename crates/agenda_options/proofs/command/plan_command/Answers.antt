use Rattle.std.proofs.Common.{◌∙◌, ap, codes}
use Rattle.std.proofs.lemmas.Result.{IfOk-weaker}
use Rattle.clap.specs.Words.{App}
use Rattle.agenda_options.specs.Command.{plan, with_jobs, with_sizes, with_span}
use Rattle.agenda_options.proofs.command.plan_command.Goals as goal

pub returns-clause-app : goal.returns-clause-app
unfolding plan with_sizes
returns-clause-app c =
    let with_the_span = c.in_ok-command.ensures.app ∙ ap with_span c.new_subcommand-command.ensures.app in
    let with_the_jobs = c.in_ok-command-2.ensures.app ∙ ap with_jobs with_the_span in
    IfOk-weaker c.with_arguments.result _ _ (λ new is. is ∙ ap (λ (app : App). with_sizes app (codes "10000")) with_the_jobs)
    c.with_arguments.ensures.app
