use Rattle.std.proofs.Common.{◌∙◌, ap, codes}
use Rattle.std.proofs.lemmas.Result.{IfOk-weaker}
use Rattle.clap.specs.Words.{App, Rule, app_of, with_rule}
use Rattle.agenda_options.specs.Command.{preset_option, with_alias, with_machine, with_machine_times}
use Rattle.agenda_options.proofs.command.machine.with_machine_times.Goals as goal

pub returns-clause-app : goal.returns-clause-app
unfolding with_machine_times with_machine
returns-clause-app c =
    let rule = c.in_ok-until.ensures.rule ∙ ap (λ (r : Rule). with_alias r (codes "upto")) c.to_clap-until.ensures.rule in
    IfOk-weaker c.with_argument.result _ _ (λ new is. is ∙ ap (λ (r : Rule). with_rule (app_of c.in_ok-command.command) r) rule
    ∙ ap (λ (app : App). with_rule app (with_alias (preset_option (codes "until") c.args.until.now) (codes "upto")))
    c.in_ok-command.ensures.app)
    c.with_argument.ensures.app
