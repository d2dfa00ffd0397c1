use Rattle.std.proofs.Common.{◌≡◌, ◌++◌, map, take}
use Rattle.agenda_machine.specs.Places.{file_path}
use Rattle.agenda_machine.proofs.places.add_paths.Given as goal

-- the paths of the parts so far were added
abbrev pub invariant-loop-part : goal.invariant-loop-part
invariant-loop-part l = l.paths ≡ l.initial.paths ++ map (file_path l.json l.root l.source.kind) (take l.part-index l.parts)
