use Rattle.std.proofs.Common.{◌+◌, ◌%◌, ap, sym, ◌∙◌, arith}
use Rattle.plan_sets.specs.Values.{has_value, Values}
use Rattle.plan_next.specs.Search.{cron_admits_day}
use Rattle.plan_next.proofs.EitherLemmas.{first_of_either, none_of_either, HasBoth}
use Rattle.plan_next.proofs.NextsLemmas.{IsFirstIn-next}
use Rattle.plan_next.proofs.SearchLemmas.{ends_in_years}
use Rattle.plan_next.proofs.search.first_of_either.Goals as goal

pub returns-then-not-contains : goal.returns-then-not-contains
returns-then-not-contains c = λ n low high.
    let both : HasBoth c.args.rule.now = record { month_days = c.requires.month_days; week_days = c.requires.week_days } in
    let none =
    ap (λ (set : Values). has_value set (c.args.month.number % 12 + 1)) (sym c.months.ensures)
    ∙ (sym c.contains.ensures ∙ c.if-not-contains.true)
    in
    none_of_either c.args.rule.now c.args.month n both c.requires.month none (omega arith) (omega arith)

pub first_by_month-by_month-requires-clause-years : goal.first_by_month-by_month-requires-clause-years
first_by_month-by_month-requires-clause-years c = let known = ends_in_years c.args.month c.requires.month in omega arith

pub first_by_week-day-requires-clause-years : goal.first_by_week-day-requires-clause-years
first_by_week-day-requires-clause-years c =
    let known = ends_in_years c.args.month c.requires.month in
    let within = c.first_by_month-by_month.ensures.to in
    omega arith

pub returns : goal.returns
returns c =
    let both : HasBoth c.args.rule.now = record { month_days = c.requires.month_days; week_days = c.requires.week_days } in
    let has =
    ap (λ (set : Values). has_value set (c.args.month.number % 12 + 1)) (sym c.months.ensures)
    ∙ (sym c.contains.ensures ∙ c.if-not-contains.false)
    in
    let first = first_of_either c.args.rule.now c.args.month c.args.from c.min-until.result c.first_by_month-by_month.result
    c.first_by_week-day.result both c.requires.month has c.requires.from (omega arith) c.first_by_month-by_month.ensures
    c.first_by_week-day.ensures in
    rw c.then_some.ensures (rw (← c.min-until.ensures) (IsFirstIn-next (cron_admits_day c.args.rule.now) c.args.from c.min-until.result
    c.first_by_week-day.result first))
