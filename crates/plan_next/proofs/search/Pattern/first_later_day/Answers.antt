use Rattle.std.proofs.Common.{◌+◌}
use Rattle.plan_next.proofs.SearchLemmas.{month_reached, no_month_left}
use Rattle.plan_next.proofs.search.Pattern.first_later_day.Goals as goal

pub loop-found-preserved : goal.loop-found-preserved
loop-found-preserved c =
    month_reached c.args.self (c.args.day + 1) c.loop-found.from c.args.end c.in_ok-next.next c.loop-found.month
    c.later-month.result c.loop-found.invariant c.in_default.ensures c.if-month-end.false c.in_ok-next.ensures
    c.later-month.ensures.month c.later-month.ensures.number

pub returns-in_err-next : goal.returns-in_err-next
returns-in_err-next c =
    rw c.from_residual.ensures (no_month_left c.args.self (c.args.day + 1) c.loop-found.from c.args.end c.loop-found.month
    c.loop-found.invariant c.in_default.ensures c.in_err-next.ensures c.requires.years)
