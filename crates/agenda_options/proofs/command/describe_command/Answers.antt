use Rattle.std.proofs.Common.{◌∙◌, ap}
use Rattle.std.proofs.lemmas.Result.{IfOk-weaker}
use Rattle.clap.specs.Words.{App}
use Rattle.agenda_options.specs.Command.{describe, describe_rules, with_each, with_sources, with_zones}
use Rattle.agenda_options.proofs.command.describe_command.Goals as goal

pub returns-clause-app : goal.returns-clause-app
unfolding describe with_zones
returns-clause-app c =
    let before = c.in_ok-command.ensures.app
    ∙ ap (λ (app : App). with_each (with_zones app) describe_rules) c.new_subcommand-command.ensures.app in
    IfOk-weaker c.with_sources.result _ _ (λ new is. is ∙ ap with_sources before) c.with_sources.ensures.app
