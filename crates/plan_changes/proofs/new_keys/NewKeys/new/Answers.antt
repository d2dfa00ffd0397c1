use Rattle.plan_changes.proofs.NumberLemmas.{new_keyed}
use Rattle.plan_changes.proofs.new_keys.NewKeys.new.Goals as goal

pub returns-clause-keys : goal.returns-clause-keys
returns-clause-keys c =
    new_keyed c.numbers_of.new.texts c.number_of.new.self c.args.jobs.now c.in_ok-numbers.numbers.items c.in_ok-empty.empty c.args.entries.now
    c.in_ok-numbers.ensures.numbers c.in_ok-empty.ensures.kept c.in_ok-empty.ensures.number
