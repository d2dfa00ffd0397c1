use Rattle.std.proofs.Common.{◌∙◌, ◌∷◌, [], ap, codes}
use Rattle.std.proofs.lemmas.Result.{IfOk-weaker}
use Rattle.clap.specs.Words.{App}
use Rattle.agenda_options.specs.Command.{flag_option, with_each, with_sizes, with_sources, with_span, with_window, with_zones}
use Rattle.agenda_options.proofs.command.windows.with_window.Goals as goal

pub returns-clause-app : goal.returns-clause-app
unfolding with_window with_zones with_sizes
returns-clause-app c =
    let flags = λ (app : App). with_each (with_zones app) (flag_option (codes "keep-going") ∷ flag_option (codes "json") ∷ []) in
    let with_the_flags = c.in_ok-command-2.ensures.app ∙ ap flags c.in_ok-command.ensures.app in
    let with_the_sources = c.in_ok-command-3.ensures.app ∙ ap with_sources with_the_flags in
    IfOk-weaker c.with_arguments-2.result _ _ (λ new is. is ∙ ap (λ (app : App). with_sizes app (codes "1000000")) with_the_sources)
    c.with_arguments-2.ensures.app
