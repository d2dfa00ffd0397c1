-- The list of changes in the handle of a clock.
use Rattle.std.specs.Prelude.{Option, Some, None, List, []}
use Rattle.std.specs.declared.sync.Arc.{Arc}
use Rattle.std.specs.declared.vec.Vec.{Vec}

-- the list of changes; it is empty if the handle has none
abbrev pub list_of : {X A Z : Type 0} → Option (Arc (Vec X A) Z) → List X
list_of None = []
list_of (Some list) = list.value.items
