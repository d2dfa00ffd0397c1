use Rattle.std.proofs.Common.{◌≡◌, Bool, drop, false}
use Rattle.std.specs.List.{list_any}
use Rattle.std.specs.Str.{bytes_eq}
use Rattle.agenda_machine.specs.Paths.{below}
use Rattle.agenda_machine.specs.Places.{path_in}
use Rattle.agenda_machine.proofs.unknown.has_file.Given as goal
use Rattle.plan_parts.specs.Files.{FileBytes}

-- no file so far is the one
abbrev pub invariant-loop-file : goal.invariant-loop-file
invariant-loop-file l =
    let is_it : FileBytes → Bool = λ file. bytes_eq (path_in false (below l.root file.path)) l.path in
    list_any is_it (drop l.file-index l.file-items) ≡ list_any is_it l.file-items
