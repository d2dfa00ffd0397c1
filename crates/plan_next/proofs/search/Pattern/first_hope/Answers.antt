use Rattle.std.proofs.Common.{arith}
use Rattle.plan_next.proofs.StretchLemmas.{hope_none, hope_some}
use Rattle.plan_next.proofs.search.Pattern.first_hope.Goals as goal

pub returns-in-None : goal.returns-in-None
returns-in-None c =
    hope_none c.args.self c.args.from c.args.end c.saturating_sub-earliest.result c.min-latest.result c.requires.bounded c.requires.part
    c.saturating_sub-earliest.ensures c.min-latest.ensures c.in-None.ensures

pub returns-in-Some : goal.returns-in-Some
returns-in-Some c =
    let (above, before, admits, none) = c.in-Some.ensures in
    hope_some c.args.self c.args.from c.args.end c.saturating_sub-earliest.result c.in-Some.shown c.max.result c.requires.bounded
    c.requires.part c.saturating_sub-earliest.ensures (omega arith) (above, omega arith, admits, none)
