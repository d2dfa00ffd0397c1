use Rattle.std.proofs.Common.{◌≡◌, ◌++◌, drop, map, true}
use Rattle.plan_machine.specs.Others.{at_jobs, at_jobs_of}
use Rattle.plan_machine.proofs.others.at_jobs.Given as goal

abbrev pub invariant-loop-path : goal.invariant-loop-path
invariant-loop-path g l =
    g.T.Tree.is_known ≡ true →
    l.found.items ++ at_jobs_of (g.T.Tree.held l.tree) (map (λ path. path.now) (drop l.path-index l.path-items))
    ≡ at_jobs (g.T.Tree.held l.tree)
