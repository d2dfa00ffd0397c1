use Rattle.std.proofs.Common.{◌≡◌, take}
use Rattle.agenda_machine.proofs.scripts.copies_of.Given as goal

-- the paths so far
abbrev pub invariant-loop-path : goal.invariant-loop-path
invariant-loop-path l = l.copies.items ≡ take l.path-index l.paths
