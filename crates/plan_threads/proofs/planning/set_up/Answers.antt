use Rattle.std.proofs.lemmas.List.{length-map, length-replicate}
use Rattle.plan_threads.proofs.StartLemmas.{fresh_all, gathers_none}
use Rattle.plan_threads.proofs.planning.set_up.Goals as goal
use Rattle.std.proofs.Common.{arith}
use Rattle.std.proofs.lemmas.Bool.Decides.{nat_tests}

pub returns-clause-outlets : goal.returns-clause-outlets
returns-clause-outlets c = grind (arith, nat_tests, fresh_all)

pub returns-clause-gathers : goal.returns-clause-gathers
returns-clause-gathers c = grind (arith, nat_tests, length-map, length-replicate, gathers_none)
