use Rattle.std.proofs.Common.{◌≡◌, ◌++◌, true, drop, filter}
use Rattle.plan_idle.specs.Answers.{is_script}
use Rattle.plan_idle.proofs.run_parts.scripts_among.Given as goal

-- the scripts so far, and those among the names that are left, are those among all
abbrev pub invariant-loop-name : goal.invariant-loop-name
invariant-loop-name g l =
    g.T.Tree.is_known ≡ true →
    l.scripts.items ++ filter (is_script (g.T.Tree.held l.tree) l.dir) (drop l.name-index l.names)
    ≡ filter (is_script (g.T.Tree.held l.tree) l.dir) l.names
