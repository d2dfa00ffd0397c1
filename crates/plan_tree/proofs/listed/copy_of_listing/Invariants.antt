use Rattle.std.proofs.Common.{◌≡◌, take}
use Rattle.plan_tree.proofs.listed.copy_of_listing.Given as goal

abbrev pub invariant-loop-name : goal.invariant-loop-name
invariant-loop-name l = l.names.items ≡ take l.name-index l.listing.names.items
