use Rattle.std.proofs.Common.{◌≡◌, ℕ, List, ◌++◌}
use Rattle.std.specs.List.{list_any}
use Rattle.std.specs.Str.{bytes_eq}
use Rattle.std.specs.Vec.Iter.{into_iter_items}
use Rattle.plan_machine.specs.Machine.{distinct, is_said, new_after}
use Rattle.plan_machine.proofs.machine.distinct.Given as goal

-- the texts so far are told, and those so far, with the new ones of the others, are all
abbrev pub invariant-loop-one : goal.invariant-loop-one
invariant-loop-one l =
    ((text : List ℕ) → list_any (bytes_eq text) l.told ≡ is_said l.yielded text)
    × (l.once.items ++ new_after l.yielded (into_iter_items l.one-iterator) ≡ distinct l.fn.skipped.items)
