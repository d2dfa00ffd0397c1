use Rattle.std.proofs.Common.{sym, arith}
use Rattle.plan_sets.specs.MonthsLaws.{civil_fields-of_month}
use Rattle.plan_next.proofs.SearchLemmas.{ends_in_years}
use Rattle.plan_next.proofs.month.Month.date.Goals as goal

pub returns : goal.returns
returns c =
    let month = c.args.self in
    let is = c.requires.month in
    let known = ends_in_years month is in
    let last = is.to in
    let end = is.end_is in
    rw c.requires.weekday (sym (civil_fields-of_month month.number month.first c.args.day (omega arith) is.first_day c.requires.from
    (omega arith) (omega arith)))
