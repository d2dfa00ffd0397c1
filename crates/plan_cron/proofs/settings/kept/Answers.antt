use Rattle.std.proofs.Common.{sym, arith}
use Rattle.std.proofs.lemmas.List.{length-take, take_all}
use Rattle.plan_cron.specs.Lines.{most_kept}
use Rattle.plan_cron.proofs.settings.kept.Goals as goal

pub returns-then-text-le-MOST_KEPT : goal.returns-then-text-le-MOST_KEPT
returns-then-text-le-MOST_KEPT c = sym (take_all most_kept c.args.text.now c.if-text-le-MOST_KEPT.true)

pub slice_bounds-result-end : goal.slice_bounds-result-end
slice_bounds-result-end c = omega (arith, length-take most_kept c.args.text.now)
