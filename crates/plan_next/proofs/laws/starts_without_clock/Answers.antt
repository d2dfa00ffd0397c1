use Rattle.plan_next.specs.UtcLaws.{is_start-utc}
use Rattle.plan_next.proofs.laws.starts_without_clock.Goals as goal

pub returns : goal.returns
returns c = λ none n. is_start-utc c.args._rule.now n none
