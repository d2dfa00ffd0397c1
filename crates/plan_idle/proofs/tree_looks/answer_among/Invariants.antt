use Rattle.std.proofs.Common.{◌≡◌, true, drop, map}
use Rattle.plan_idle.specs.declared.answer.Answer.TheVariants.{No}
use Rattle.plan_idle.specs.Answers.{answer_among}
use Rattle.plan_idle.proofs.tree_looks.answer_among.Given as goal

-- what is found in the directories that are left, after what was found, is what is found in all
abbrev pub invariant-loop-dir : goal.invariant-loop-dir
invariant-loop-dir g l =
    g.T.Tree.is_known ≡ true →
    answer_among (g.T.Tree.held l.tree) l.name l.found (map (λ dir. dir.now) (drop l.dir-index l.dirs))
    ≡ answer_among (g.T.Tree.held l.tree) l.name No (map (λ dir. dir.now) l.dirs)
