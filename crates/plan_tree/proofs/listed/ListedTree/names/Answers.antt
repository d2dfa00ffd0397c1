use Rattle.std.proofs.Common.{Some, sym, ap, ◌∙◌}
use Rattle.plan_tree.proofs.listed.ListedTree.names.Goals as goal

pub returns-in_ok-copy_of_listing-in-Some : goal.returns-in_ok-copy_of_listing-in-Some
returns-in_ok-copy_of_listing-in-Some g c = λ known.
    ap (λ listing. Some listing) c.in_ok-copy_of_listing-in-Some.ensures
    ∙ sym ((c.args.self.now.is_kept known).1 c.args.path.now c.in-Some.found.now (sym c.in-Some.ensures.value))
