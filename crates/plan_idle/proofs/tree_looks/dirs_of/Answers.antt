-- The iterator collects `slice_split` at colons.
use Rattle.std.proofs.Common.{◌≡◌, ◌==◌, lit<, map}
use Rattle.std.proofs.lemmas.Iterator.Consumers.{map_from_collect}
use Rattle.std.proofs.lemmas.Iterator.Splits.{YieldsList-from_str_split}
use Rattle.std.proofs.lemmas.Result.{IfOk-at_ok}
use Rattle.std.specs.List.{slice_split}
use Rattle.plan_idle.proofs.tree_looks.dirs_of.Goals as goal

pub returns : goal.returns
returns c =
    IfOk-at_ok (λ found. map (λ name. name.now) found.items ≡ slice_split (λ b. b == 58) c.args.path.now) c.in_ok-dirs.was
    (map_from_collect c.collect.result c.collect.ensures.ran
    (YieldsList-from_str_split 58 c.args.path.now (lit< tt) c.split.ensures.text c.split.ensures.has_more c.split.ensures.pattern))
