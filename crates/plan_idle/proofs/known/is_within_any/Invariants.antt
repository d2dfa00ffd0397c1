use Rattle.std.proofs.Common.{◌≡◌, drop}
use Rattle.std.specs.List.{list_any}
use Rattle.plan_idle.specs.Known.{is_within}
use Rattle.plan_idle.proofs.known.is_within_any.Given as goal

abbrev pub invariant-loop-dir : goal.invariant-loop-dir
invariant-loop-dir l = list_any (is_within l.place) l.dirs ≡ list_any (is_within l.place) (drop l.dir-index l.dirs)
