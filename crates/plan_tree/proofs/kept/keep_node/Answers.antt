use Rattle.std.proofs.Common.{◌≡◌, Some, subst, refl}
use Rattle.std.proofs.lemmas.Map.Text.{hash_map_updates_text}
use Rattle.std.specs.HashMap.{get_by_text}
use Rattle.std.specs.Map.{update}
use Rattle.std.specs.Str.{bytes_eq}
use Rattle.plan_tree.proofs.KeptLemmas.{keeps_with_node}
use Rattle.plan_tree.proofs.kept.keep_node.Goals as goal

pub returns-clause-keeps : goal.returns-clause-keeps
returns-clause-keeps g c = λ known.
    let held = g.T.Tree.held c.args.tree.now in
    let old = c.args.kept.now in
    keeps_with_node held old (record { nodes = c.insert.new.self; dirs = old.dirs }) c.args.path.now c.in_ok-node.node refl
    (λ q.
    subst (λ k. get_by_text c.insert.new.self q ≡ update bytes_eq (get_by_text old.nodes) k (Some c.in_ok-node.node) q)
    c.in_ok-from_str.ensures.ok (hash_map_updates_text _ old.nodes c.insert.new.self _ c.in_ok-insert.ensures.updates q))
    (c.in_ok-node.ensures known)
