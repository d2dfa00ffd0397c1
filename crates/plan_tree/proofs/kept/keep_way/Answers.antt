use Rattle.plan_tree.proofs.KeptLemmas.{keeps_both}
use Rattle.plan_tree.proofs.kept.keep_way.Goals as goal

pub returns-then-not-branch : goal.returns-then-not-branch
returns-then-not-branch g c = λ known.
    keeps_both (g.T.Tree.held c.args.tree.now) c.args.kept.now c.loop-name.kept c.keep_node.new.kept (c.loop-name.invariant known)
    (c.in_ok-keep_node.ensures.keeps known)

pub loop-name-preserved : goal.loop-name-preserved
loop-name-preserved g c = λ known.
    keeps_both (g.T.Tree.held c.args.tree.now) c.args.kept.now c.loop-name.kept c.keep_node.new.kept (c.loop-name.invariant known)
    (c.in_ok-keep_node.ensures.keeps known)
