use Rattle.std.proofs.Common.{◌≡◌, IfSome, subst}
use Rattle.plan_tree.specs.Complete.{LacksSlash}
use Rattle.plan_tree.specs.Tree.{path_below}
use Rattle.plan_tree.proofs.KeptLemmas.{split_last}
use Rattle.plan_tree.proofs.listed.dir_and_name.Goals as goal

pub returns : goal.returns
returns c =
    subst (λ r. IfSome r (λ x. (c.args.path.now ≡ path_below x.0.now x.1.now) × LacksSlash x.1.now)) c.in_ok-dir.was
    (split_last c.args.path.now c.rsplit_once.result c.rsplit_once.ensures.cases)
