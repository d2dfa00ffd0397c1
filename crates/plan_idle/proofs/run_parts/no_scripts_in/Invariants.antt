use Rattle.std.proofs.Common.{◌≡◌, true, drop}
use Rattle.plan_idle.specs.Answers.{no_scripts_in}
use Rattle.plan_idle.proofs.run_parts.no_scripts_in.Given as goal

-- the names that are left say as much as all
abbrev pub invariant-loop-name : goal.invariant-loop-name
invariant-loop-name g l =
    g.T.Tree.is_known ≡ true →
    no_scripts_in (g.T.Tree.held l.tree) l.dir (drop l.name-index l.names) ≡ no_scripts_in (g.T.Tree.held l.tree) l.dir l.names
