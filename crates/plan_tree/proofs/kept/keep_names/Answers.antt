use Rattle.std.proofs.Common.{◌≡◌, true, take, get_or, subst, sym, ap, ◌∙◌}
use Rattle.std.proofs.lemmas.List.{take_more}
use Rattle.plan_tree.specs.Kept.{HasNames, has_node}
use Rattle.plan_tree.specs.Tree.{path_below}
use Rattle.plan_tree.proofs.KeptLemmas.{has_one_more, keeps_both}
use Rattle.plan_tree.proofs.kept.keep_names.Goals as goal

-- what has the next name is kept too
pub loop-name-preserved : goal.loop-name-preserved
loop-name-preserved g c = λ known.
    let held = g.T.Tree.held c.args.tree.now in
    let dir = c.args.dir.now in
    let names = c.args.names.now in
    let k = c.loop-name.name-index in
    let before = c.loop-name.invariant known in
    let step = c.in_ok-keep_node.ensures.keeps known in
    let more : has_node c.keep_node.new.kept (path_below dir (get_or names k c.name-item.result)) ≡ true =
    subst (λ path. has_node c.keep_node.new.kept path ≡ true)
    (c.as_str-in-loop-name.ensures.value ∙ c.in_ok-path.ensures ∙ ap (path_below dir) (c.as_str.ensures ∙ c.name-item.is))
    c.in_ok-keep_node.ensures.kept in (
      keeps_both held c.args.kept.now c.loop-name.kept c.keep_node.new.kept before.0 step,
      subst (HasNames c.keep_node.new.kept dir) (sym (take_more names k c.name-item.result c.loop-name-test.true))
          (has_one_more c.loop-name.kept c.keep_node.new.kept dir (take k names) (get_or names k c.name-item.result) before.1 step.1 more),
    )

pub returns-clause-keeps : goal.returns-clause-keeps
returns-clause-keeps g c = λ known. (c.loop-name.invariant known).0
