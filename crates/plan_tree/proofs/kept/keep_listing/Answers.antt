use Rattle.std.proofs.Common.{◌≡◌, Some, true, subst, refl, sym, ◌∙◌}
use Rattle.std.proofs.lemmas.Map.Text.{hash_map_updates_text}
use Rattle.std.specs.HashMap.{get_by_text}
use Rattle.std.specs.Map.{update}
use Rattle.std.specs.Str.{bytes_eq}
use Rattle.plan_tree.specs.declared.kept.KeptDir.{KeptDir}
use Rattle.plan_tree.proofs.KeptLemmas.{keeps_with_listing}
use Rattle.plan_tree.specs.Complete.{is_searchable}
use Rattle.plan_tree.proofs.kept.keep_listing.Goals.{then-listing, else-listing}
use Rattle.plan_tree.proofs.kept.keep_listing.Goals as goal

pub returns : goal.returns
returns g c = λ known is.
    let held = g.T.Tree.held c.args.tree.now in
    let old = c.args.kept.now in
    let found : KeptDir = record { listing = c.args.listing; is_complete = c.if-listing.is_complete } in
    keeps_with_listing held old (record { nodes = old.nodes; dirs = c.insert.new.self }) c.args.dir.now found refl
    (λ q.
    subst (λ k. get_by_text c.insert.new.self q ≡ update bytes_eq (get_by_text old.dirs) k (Some found) q)
    c.in_ok-from_str.ensures.ok (hash_map_updates_text _ old.dirs c.insert.new.self _ c.in_ok-insert.ensures.updates q))
    (g.met.T.Complete.complete c.args.tree.now known) is
    (elim c.if-listing.branch
    as (λ _. c.if-listing.is_complete ≡ true → (c.args.listing.is_whole ≡ true) × (is_searchable held c.args.dir.now ≡ true)) [
      | then-listing w ↦ λ both. (w.if-listing.true, sym (c.in_ok-is_searchable.ensures known) ∙ sym w.is_complete-is ∙ both)
      | else-listing w ↦ λ both. absurd (cc)
    ])
