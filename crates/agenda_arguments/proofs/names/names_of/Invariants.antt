use Rattle.std.proofs.Common.{◌≡◌, map, take}
use Rattle.agenda_arguments.proofs.names.names_of.Given as goal

-- the names so far
abbrev pub invariant-loop-name : goal.invariant-loop-name
invariant-loop-name l = l.names ≡ map (λ name. name.now) (take l.name-index l.written)
