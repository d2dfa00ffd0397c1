use Rattle.std.proofs.Common.{◌≡◌, sym, ◌∙◌}
use Rattle.std.proofs.lemmas.Result.{IfOk-weaker}
use Rattle.plan_tree.proofs.listed.ListedTree.node.Goals as goal

pub returns-in-Some : goal.returns-in-Some
returns-in-Some g c = λ known.
    let held = g.T.Tree.held c.args.self.now.tree.now in
    let kept : held.node c.args.path.now ≡ c.in-Some.node.now =
    (c.args.self.now.is_kept known).0 c.args.path.now c.in-Some.node.now (sym c.in-Some.ensures.value) in
    IfOk-weaker c.copy_of.result (λ copy. copy ≡ c.in-Some.node.now) (λ copy. copy ≡ held.node c.args.path.now)
    (λ copy is. is ∙ sym kept) c.copy_of.ensures
