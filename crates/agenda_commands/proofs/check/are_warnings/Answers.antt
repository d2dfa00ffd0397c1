use Rattle.std.proofs.Common.{sym, ◌∙◌}
use Rattle.std.proofs.lemmas.List.Folds.{list_all-map}
use Rattle.plan_check.specs.declared.Finding.{Finding}
use Rattle.plan_check.specs.Finding.{is_warning}
use Rattle.agenda_sources.specs.declared.Found.{Found}
use Rattle.agenda_commands.proofs.check.are_warnings.Goals as goal

pub returns : goal.returns
returns c =
    c.all_warned.ensures
    ∙ sym (list_all-map (λ (finding : Finding). is_warning finding.kind) (λ (one : Found). one.finding) c.args.found.now)
