use Rattle.std.proofs.Common.{◌≡◌, ◌++◌, drop}
use Rattle.plan_units.specs.Entries.{places_of}
use Rattle.plan_units.proofs.merging.places_of.Given as goal

abbrev pub invariant-loop-dir : goal.invariant-loop-dir
invariant-loop-dir l = l.places.items ++ places_of (drop l.dir-index l.dirs) l.names l.suffix ≡ places_of l.dirs l.names l.suffix
