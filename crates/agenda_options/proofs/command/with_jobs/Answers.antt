use Rattle.std.proofs.Common.{◌∙◌, ap}
use Rattle.std.proofs.lemmas.Result.{IfOk-weaker}
use Rattle.agenda_options.specs.Command.{with_format, with_jobs, with_sources, with_zones}
use Rattle.agenda_options.proofs.command.with_jobs.Goals as goal

pub returns-clause-app : goal.returns-clause-app
unfolding with_format with_jobs with_zones
returns-clause-app c =
    IfOk-weaker c.with_sources.result _ _ (λ new is. is ∙ ap with_sources c.in_ok-command.ensures.app) c.with_sources.ensures.app
