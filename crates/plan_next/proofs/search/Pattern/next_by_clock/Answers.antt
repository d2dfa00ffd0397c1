use Rattle.std.proofs.Common.{◌+◌, None, Some, arith}
use Rattle.plan_next.specs.Search.{starts_by}
use Rattle.plan_next.proofs.FirstLemmas.{IsFirstIn-later}
use Rattle.plan_next.proofs.StretchLemmas.{plain_admitted, plain_next, IsLeastIn-longer}
use Rattle.plan_next.proofs.search.Pattern.next_by_clock.Goals as goal

pub next_moment-requires-clause-admitted : goal.next_moment-requires-clause-admitted
next_moment-requires-clause-admitted c =
    plain_admitted c.args.self c.args.start c.args.end c.in-Some.part c.in-Some.ensures c.requires.start

pub returns-in-Some-next_moment : goal.returns-in-Some-next_moment
returns-in-Some-next_moment c =
    let plain = c.in-Some.ensures in
    let next = plain_next c.args.self c.args.start c.args.end c.in-Some.part (Some c.in-Some-next_moment.next) plain
    c.in-Some-next_moment.ensures in
    IsLeastIn-longer (starts_by c.args.self) (c.args.start + 1) c.in-Some.part.upto c.args.end _ plain.within next

pub returns : goal.returns
returns c =
    let plain = c.in-Some.ensures in
    let before = plain.before in
    let none = plain_next c.args.self c.args.start c.args.end c.in-Some.part None plain c.in_default-next_moment.ensures in
    IsFirstIn-later (starts_by c.args.self) (c.args.start + 1) c.in-Some.part.upto c.args.end c.first_by_clock-2.result (omega arith)
    none c.first_by_clock-2.ensures
