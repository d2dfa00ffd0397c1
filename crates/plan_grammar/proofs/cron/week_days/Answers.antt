-- Answers the one clause of `week_days`: the set is `week_days_of` the written days.
-- The loop's invariant: the set so far holds the written days before the next one. A turn adds its day or skips it
-- (`day_added`, `day_passed`). At the end the set of all seven is determined by its members (`collected`).
use Rattle.std.proofs.Common.{◌≡◌, ℕ, ◌&&◌, Bool, false, nat_lt, ap, sym, ◌∙◌, arith}
use Rattle.std.proofs.lemmas.Bool.Decides.{nat_tests}
use Rattle.plan_sets.specs.Values.{Values, has_value}
use Rattle.plan_sets.specs.ValuesLaws.{has_value-no_values, has_value-with_value}
use Rattle.plan_grammar.specs.Cron.{has_week_day}
use Rattle.plan_grammar.proofs.WeekDaysLemmas.{collected, day_added, day_passed}
use Rattle.plan_grammar.proofs.cron.week_days.Goals as goal
use Rattle.plan_grammar.proofs.cron.week_days.Goals.{then-has_week_day, else-has_week_day}

none_yet : (b : Bool) (v : ℕ) → false ≡ (nat_lt v 0 && b)
none_yet b v = grind (arith, nat_tests)

pub loop-day-init : goal.loop-day-init
loop-day-init c =
    let new = c.empty-days.ensures in
    record {
      base = ap (λ (s : Values). s.base) new;
      members = λ v. ap (λ (s : Values). has_value s v) new ∙ has_value-no_values 0 v ∙ none_yet (has_week_day c.args.written.now v) v;
    }

pub loop-day-preserved : goal.loop-day-preserved
loop-day-preserved c =
    let day = c.loop-day.day in
    let test = has_week_day c.args.written.now in
    elim c.if-has_week_day.branch [
      | then-has_week_day w ↦
          let new = w.days-is ∙ w.insert.ensures in
          record {
            base = ap (λ (s : Values). s.base) new ∙ c.loop-day.invariant.base;
            members = λ v. ap (λ (s : Values). has_value s v) new ∙ has_value-with_value c.loop-day.days day v
                ∙ day_added (has_value c.loop-day.days v) test day v (sym c.has_week_day.ensures ∙ w.if-has_week_day.true)
                (c.loop-day.invariant.members v);
          }
      | else-has_week_day w ↦ record {
        base = ap (λ (s : Values). s.base) w.days-is ∙ c.loop-day.invariant.base;
        members = λ v. ap (λ (s : Values). has_value s v) w.days-is
            ∙ day_passed (has_value c.loop-day.days v) test day v (sym c.has_week_day.ensures ∙ w.if-has_week_day.false)
            (c.loop-day.invariant.members v);
      }
    ]

pub returns : goal.returns
returns c =
    let whole : c.loop-day.day ≡ 7 = omega arith in
    collected c.args.written.now c.loop-day.days c.loop-day.invariant.base
    (λ v. c.loop-day.invariant.members v ∙ ap (λ n. nat_lt v n && has_week_day c.args.written.now v) whole)
