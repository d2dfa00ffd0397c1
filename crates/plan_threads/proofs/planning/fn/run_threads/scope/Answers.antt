-- For the loop of the scope in `run_threads`: each iteration takes the first remaining outlet, and starts its thread. The
-- outlet's number is the number of threads so far, so the thread is that planner's, by the promise that `spawn_with` was
-- given. The outlets after it stay fresh.
use Rattle.std.proofs.Common.{arith}
use Rattle.plan_threads.proofs.StartLemmas.{planners_more}
use Rattle.plan_threads.proofs.planning.fn.run_threads.scope.Goals as goal
use Rattle.std.proofs.lemmas.Bool.Decides.{nat_tests}

pub loop-outlet-preserved : goal.loop-outlet-preserved
loop-outlet-preserved g c = grind (arith, nat_tests, planners_more)
