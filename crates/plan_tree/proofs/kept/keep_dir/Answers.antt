use Rattle.std.proofs.Common.{◌≡◌, Some, ap, sym, subst, ◌∙◌}
use Rattle.std.specs.Option.{option_map}
use Rattle.plan_tree.specs.Kept.{HasNames}
use Rattle.plan_tree.specs.Tree.{listed}
use Rattle.plan_tree.proofs.KeptLemmas.{keeps_both}
use Rattle.plan_tree.proofs.kept.keep_dir.Goals as goal

pub returns-in_ok-keep_listing-in-Some : goal.returns-in_ok-keep_listing-in-Some
returns-in_ok-keep_listing-in-Some g c = λ known.
    let held = g.T.Tree.held c.args.tree.now in
    let whole : held.names c.args.dir.now ≡ Some (listed c.in-Some.listing) =
    sym (c.in_ok-names.ensures known) ∙ ap (option_map listed) c.in-Some.is in
    let has : HasNames c.keep_names.new.kept c.args.dir.now c.in-Some.listing.names.items =
    subst (HasNames c.keep_names.new.kept c.args.dir.now) c.as_slice.ensures.value (c.in_ok-inside-in-Some.ensures.kept known) in
    keeps_both held c.args.kept.now c.keep_names.new.kept c.keep_listing.new.kept (c.in_ok-inside-in-Some.ensures.keeps known)
    (c.in_ok-keep_listing-in-Some.ensures known (whole, has))
