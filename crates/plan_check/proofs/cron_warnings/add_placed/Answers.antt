use Rattle.std.proofs.Common.{◌≡◌, List, ◌++◌, OnOk, ap, ◌∙◌, subst, codes}
use Rattle.std.proofs.lemmas.List.{append_assoc}
use Rattle.plan_check.specs.declared.finding.Finding.{Finding}
use Rattle.plan_check.specs.declared.finding.FindingKind.TheVariants.{Warned}
use Rattle.plan_check.specs.declared.finding.Warning.TheVariants.{CronDiffers, CronIgnores}
use Rattle.plan_check.specs.Finding.{detailed_if}
use Rattle.plan_check.proofs.cron_warnings.add_placed.Goals as goal

pub returns : goal.returns
returns c =
    let before = c.args.found.now.items in
    let line = c.args.line in
    let many = detailed_if c.args.is_beyond line (Warned CronIgnores) (codes "more than 10003 lines") in
    let nul = detailed_if c.ends_at_nul.result line (Warned CronDiffers) (codes "cron ends the line at a NUL byte") in
    let P : List Finding → Type 0 = λ items. OnOk c.add_detailed_if-2.result (c.add_detailed_if-2.new.found.items ≡ items) in
    subst P
    (ap (λ items. items ++ nul) c.in_ok-add_detailed_if.ensures
    ∙ append_assoc before many nul
    ∙ (λ i. before ++ (many
    ++ detailed_if (c.ends_at_nul.ensures i) line (Warned CronDiffers) (codes "cron ends the line at a NUL byte"))))
    c.add_detailed_if-2.ensures
