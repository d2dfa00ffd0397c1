use Rattle.plan_tree.proofs.listed.Listed.new.Goals as goal

pub loop-path-preserved : goal.loop-path-preserved
loop-path-preserved g c = λ known. (c.in_ok-keep_below.ensures known).0 (c.loop-path.invariant known)
