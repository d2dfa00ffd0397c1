use Rattle.plan_changes.proofs.NumberLemmas.{AreNumbered}
use Rattle.plan_changes.proofs.new_keys.numbers_of.Given as goal

-- the numbers of what the jobs so far run
abbrev pub invariant-loop-job : goal.invariant-loop-job
invariant-loop-job l = AreNumbered l.fn.texts l.texts l.jobs l.job l.numbers.items
