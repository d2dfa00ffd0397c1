use Rattle.std.proofs.Common.{◌≡◌, take, None}
use Rattle.plan_grammar.specs.Event.{first_place_fault}
use Rattle.plan_grammar.proofs.places.first_fault.Given as goal

-- no item so far has an error
abbrev pub invariant-loop-item : goal.invariant-loop-item
invariant-loop-item l = first_place_fault (take l.item-index l.items) ≡ None
