use Rattle.std.proofs.Common.{◌∙◌, ◌∷◌, [], ap, codes}
use Rattle.std.proofs.lemmas.Result.{IfOk-weaker}
use Rattle.clap.specs.Words.{App}
use Rattle.agenda_options.specs.Command.{changes, flag_option, required_argument, with_each, with_format, with_sizes, with_sources, with_zones}
use Rattle.agenda_options.proofs.command.windows.changes_command.Goals as goal

pub returns-clause-app : goal.returns-clause-app
unfolding changes with_zones with_format with_sizes
returns-clause-app c =
    let rules =
    λ (app : App). with_format (with_each (with_zones (with_each app (required_argument (codes "before") ∷ [])))
    (flag_option (codes "keep-going") ∷ [])) in
    let with_the_rules = c.in_ok-command.ensures.app ∙ ap rules c.new_subcommand-command.ensures.app in
    let with_the_sources = c.in_ok-command-2.ensures.app ∙ ap with_sources with_the_rules in
    IfOk-weaker c.with_arguments-2.result _ _ (λ new is. is ∙ ap (λ (app : App). with_sizes app (codes "10000")) with_the_sources)
    c.with_arguments-2.ensures.app
