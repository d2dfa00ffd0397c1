use Rattle.plan_next.proofs.StretchLemmas.{plain_utc}
use Rattle.plan_next.proofs.search.Pattern.plain_part.Goals as goal

pub returns-in-None : goal.returns-in-None
returns-in-None c =
    plain_utc c.args.self c.args.start c.args.end (c.requires.utc c.in-None.is) c.requires.part c.requires.years
