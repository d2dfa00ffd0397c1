use Rattle.std.proofs.Common.{◌+◌, ◌-◌}
use Rattle.plan_next.specs.Search.{end_month}
use Rattle.plan_next.proofs.SearchLemmas.{IsReached}
use Rattle.plan_next.proofs.search.Pattern.first_later_day.Given as goal

-- no day up to here matches
abbrev pub invariant-loop-found : goal.invariant-loop-found
invariant-loop-found l = IsReached l.self (l.day + 1) l.month l.from

abbrev pub decreases-loop-found : goal.decreases-loop-found
decreases-loop-found l = end_month - l.month.number
