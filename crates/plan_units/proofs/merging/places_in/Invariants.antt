use Rattle.std.proofs.Common.{◌≡◌, ◌++◌, drop}
use Rattle.plan_units.specs.Entries.{places_in}
use Rattle.plan_units.proofs.merging.places_in.Given as goal

abbrev pub invariant-loop-name : goal.invariant-loop-name
invariant-loop-name l = l.places.items ++ places_in l.dir (drop l.name-index l.names) l.suffix ≡ places_in l.dir l.names l.suffix
