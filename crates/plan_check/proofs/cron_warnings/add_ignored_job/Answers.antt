use Rattle.std.proofs.Common.{◌≡◌, List, ◌++◌, OnOk, ap, ◌∙◌, subst, codes}
use Rattle.std.proofs.lemmas.List.{append_assoc}
use Rattle.plan_check.specs.declared.finding.Finding.{Finding}
use Rattle.plan_check.specs.declared.finding.FindingKind.TheVariants.{Warned}
use Rattle.plan_check.specs.declared.finding.Warning.TheVariants.{CronIgnores}
use Rattle.plan_check.specs.Finding.{detailed_if}
use Rattle.plan_check.proofs.cron_warnings.add_ignored_job.Goals as goal

pub returns : goal.returns
returns c =
    let before = c.args.found.now.items in
    let line = c.args.line in
    let star = detailed_if c.begins_with_star.result line (Warned CronIgnores) (codes "the command begins with *") in
    let long = detailed_if c.is_too_long.result line (Warned CronIgnores) (codes "command over 998 bytes") in
    let P : List Finding → Type 0 = λ items. OnOk c.add_detailed_if-2.result (c.add_detailed_if-2.new.found.items ≡ items) in
    subst P
    (ap (λ items. items ++ long) c.in_ok-add_detailed_if.ensures
    ∙ append_assoc before star long
    ∙ (λ i. before ++ (detailed_if (c.begins_with_star.ensures i) line (Warned CronIgnores) (codes "the command begins with *")
    ++ detailed_if (c.is_too_long.ensures i) line (Warned CronIgnores) (codes "command over 998 bytes"))))
    c.add_detailed_if-2.ensures
