use Rattle.std.proofs.Common.{◌∙◌, ap}
use Rattle.std.proofs.lemmas.Result.{IfOk-weaker}
use Rattle.agenda_options.specs.Command.{week, with_window}
use Rattle.agenda_options.proofs.command.windows.week_command.Goals as goal

pub returns-clause-app : goal.returns-clause-app
unfolding week
returns-clause-app c =
    IfOk-weaker c.with_window.result _ _ (λ new is. is ∙ ap with_window c.new_subcommand-command.ensures.app) c.with_window.ensures.app
