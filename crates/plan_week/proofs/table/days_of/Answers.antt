use Rattle.std.proofs.Common.{◌≡◌, ◌∙◌, ◌<◌, ◌^◌, List, ap, arith, filter, rules, subst, sym}
use Rattle.std.proofs.lemmas.List.Elements.{filter_from_retain}
use Rattle.std.proofs.lemmas.List.Sums.{count_by-le-length}
use Rattle.plan_week.specs.Week.{AreInYears, is_inside, is_met, week_of, week_sum}
use Rattle.plan_week.specs.declared.day.Day.{Day}
use Rattle.plan_week.proofs.MetLemmas.{met_in_table}
use Rattle.plan_week.proofs.SumLemmas.{sum_is}
use Rattle.plan_week.proofs.YearLemmas.{week_in_years}
use Rattle.plan_week.proofs.table.days_of.Goals as goal

pub returns-clause-days : goal.returns-clause-days
returns-clause-days c =
    filter_from_retain _ is_met (λ p x b q called. search rules) _ _ _ c.retain.ensures.filtered
    ∙ ap (filter is_met) c.add_entries.ensures.days
    ∙ met_in_table c.args.clock.now c.args.agenda.now c.add_hours.ensures.bounded c.add_hours.ensures.years c.add_hours.ensures.ordered

pub returns-clause-years : goal.returns-clause-years
returns-clause-years c =
    subst AreInYears (sym (returns-clause-days c)) (week_in_years c.args.clock.now c.args.agenda.now)

pub returns-clause-sum : goal.returns-clause-sum
returns-clause-sum c =
    let span = c.args.agenda.now.span in
    let is = ap week_sum (returns-clause-days c) ∙ sum_is c.args.clock.now c.args.agenda.now c.add_hours.ensures.years in
    let few = count_by-le-length (λ entry. is_inside span entry.0) c.args.agenda.now.entries in
    omega (arith, is, few, c.add_entries.ensures.few)
