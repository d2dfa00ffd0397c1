use Rattle.std.proofs.Common.{sym}
use Rattle.plan_tree.proofs.KeptLemmas.{left_out}
use Rattle.plan_tree.proofs.listed.Listed.is_missing.Goals as goal

pub returns-in-Some-get : goal.returns-in-Some-get
returns-in-Some-get g c = λ known complete none.
    let path = c.args.path.now in
    left_out (g.T.Tree.held c.args.self.now.tree.now) c.args.self.now.kept path c.in-Some.dir.now c.in-Some.name.now
    c.in-Some-get.found.now (c.args.self.now.is_kept known) c.in-Some.ensures
    (sym c.in-Some-get.ensures.value) complete (sym c.if-not-is_here.ensures) (sym c.if-not-is_up.ensures) none
