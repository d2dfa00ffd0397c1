use Rattle.plan_tree.proofs.KeptLemmas.{keeps_both}
use Rattle.plan_tree.proofs.listed.keep_below.Goals as goal

pub loop-dir-preserved : goal.loop-dir-preserved
loop-dir-preserved g c = λ known.
    keeps_both (g.T.Tree.held c.args.tree.now) c.args.kept.now c.loop-dir.kept c.keep_dir-in-loop-dir.new.kept (c.loop-dir.invariant known)
    (c.in_ok-keep_dir.ensures known)
