use Rattle.std.proofs.Common.{◌≡◌, [], sym, ◌∙◌, arith}
use Rattle.plan_next.specs.Search.{admits_moment, clock_of, starts_by}
use Rattle.plan_next.proofs.FirstLemmas.{IsFirstIn-same}
use Rattle.plan_next.proofs.StartsLemmas.{starts_by-moment}
use Rattle.plan_next.proofs.search.Pattern.first_start.Goals as goal

pub returns-then-is_utc : goal.returns-then-is_utc
returns-then-is_utc c =
    let none : clock_of c.args.self ≡ [] = sym c.clock.ensures ∙ c.is_utc.ensures.0 c.if-is_utc.true in
    IsFirstIn-same (admits_moment c.args.self) (starts_by c.args.self) c.args.since c.args.end c.first_moment.result
    (λ n before. starts_by-moment c.args.self n none (omega arith)) c.first_moment.ensures
