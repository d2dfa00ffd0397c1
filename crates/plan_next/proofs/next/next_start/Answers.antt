use Rattle.std.proofs.Common.{◌+◌, ◌-◌, ◌^◌, arith}
use Rattle.plan_sets.specs.Limits.{end_second}
use Rattle.plan_next.specs.Starts.{is_start}
use Rattle.plan_next.specs.StartsLaws.{passing-first}
use Rattle.plan_next.proofs.FirstLemmas.{IsFirstIn-saturated}
use Rattle.plan_next.proofs.next.next_start.Goals as goal

-- the largest number of seconds, which can't be increased, is after the end
pub returns-clause-least : goal.returns-clause-least
returns-clause-least c =
    IsFirstIn-saturated (is_start c.args.rule.now) (c.args.after + 1) (2 ^ 64 - 1) c.saturating_add.result end_second c.next_from.result
    (omega arith) c.saturating_add.ensures c.next_from.ensures.least

pub returns-clause-first : goal.returns-clause-first
returns-clause-first c =
    passing-first (is_start c.args.rule.now) (c.args.after + 1) end_second c.next_from.result (returns-clause-least c)
