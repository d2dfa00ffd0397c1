use Rattle.std.proofs.Common.{◌∙◌, ℕ, None, Option, ap, arith, get_or, length}
use Rattle.std.proofs.Math.ListN.{length-set, set}
use Rattle.std.proofs.lemmas.List.Edits.{fill_by_more}
use Rattle.std.proofs.lemmas.List.FromFn.{fill_by_all}
use Rattle.plan_week.specs.Texts.{all_at, all_hours}
use Rattle.plan_week.proofs.SumLemmas.{column_within}
use Rattle.plan_week.proofs.text.all_hours.Goals as goal

pub all_at-requires-clause-sum : goal.all_at-requires-clause-sum
all_at-requires-clause-sum c = omega (arith, column_within c.loop-hour.hour c.args.days.now)

pub loop-hour-preserved : goal.loop-hour-preserved
loop-hour-preserved c =
    let hours = c.loop-hour.starts-items in
    let hour = c.loop-hour.hour in
    record {
      long = length-set hours hour _ ∙ c.loop-hour.invariant.long;
      each = λ k lt. ap (λ (starts : Option ℕ). get_or (set hours hour starts) k None) c.all_at.ensures
          ∙ fill_by_more (all_at c.args.days.now) hours hour None (omega (arith, c.loop-hour.invariant.long)) c.loop-hour.invariant.each k lt;
    }

pub returns : goal.returns
unfolding all_hours
returns c =
    fill_by_all (all_at c.args.days.now) c.loop-hour.starts-items 24 None c.loop-hour-test.array_long
    (λ k lt. c.loop-hour.invariant.each k (omega arith))
