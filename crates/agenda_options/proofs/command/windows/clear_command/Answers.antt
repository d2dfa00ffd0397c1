use Rattle.std.proofs.Common.{◌∙◌, ap}
use Rattle.std.proofs.lemmas.Result.{IfOk-weaker}
use Rattle.clap.specs.Words.{App}
use Rattle.agenda_options.specs.Command.{clear, clear_rules, search_rules, with_each, with_sources, with_span, with_zones}
use Rattle.agenda_options.proofs.command.windows.clear_command.Goals as goal

pub returns-clause-app : goal.returns-clause-app
unfolding clear with_zones
returns-clause-app c =
    let with_the_span = c.in_ok-command.ensures.app ∙ ap with_span c.new_subcommand-command.ensures.app in
    let with_the_rules = c.in_ok-command-2.ensures.app ∙ ap (λ (app : App). with_each (with_zones app) clear_rules) with_the_span in
    let with_the_sources = c.in_ok-command-3.ensures.app ∙ ap with_sources with_the_rules in
    IfOk-weaker c.with_arguments-2.result _ _ (λ new is. is ∙ ap (λ (app : App). with_each app search_rules) with_the_sources)
    c.with_arguments-2.ensures.app
