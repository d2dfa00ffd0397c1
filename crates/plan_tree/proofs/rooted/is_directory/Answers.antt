use Rattle.std.proofs.Common.{[], ap, ◌∙◌}
use Rattle.plan_tree.specs.Tree.{is_directory}
use Rattle.plan_tree.proofs.rooted.is_directory.Goals as goal

pub returns : goal.returns
returns g c = λ known.
    c.is_directory.ensures ∙ ap is_directory (c.in_ok-node.ensures known ∙ ap (λ held. held.node []) c.new.ensures)
