use Rattle.std.proofs.Common.{◌≡◌, ◌+◌, [], ◌∙◌, arith}
use Rattle.plan_next.specs.Search.{admits_moment, clock_of, starts_by}
use Rattle.plan_next.proofs.FirstLemmas.{IsFirstIn-same}
use Rattle.plan_next.proofs.StartsLemmas.{starts_by-moment}
use Rattle.plan_next.proofs.search.Pattern.next_start.Goals as goal

pub next_moment-requires-clause-admitted : goal.next_moment-requires-clause-admitted
next_moment-requires-clause-admitted c =
    let none : clock_of c.args.self ≡ [] = c.requires.utc c.in-None.is in
    starts_by-moment c.args.self c.args.start none (omega arith) ∙ c.requires.start

pub returns-in-None : goal.returns-in-None
returns-in-None c =
    let none : clock_of c.args.self ≡ [] = c.requires.utc c.in-None.is in
    IsFirstIn-same (admits_moment c.args.self) (starts_by c.args.self) (c.args.start + 1) c.args.end c.next_moment.result
    (λ n before. starts_by-moment c.args.self n none (omega arith)) c.next_moment.ensures
