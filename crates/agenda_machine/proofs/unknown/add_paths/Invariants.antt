use Rattle.std.proofs.Common.{◌≡◌, ◌++◌, drop}
use Rattle.std.specs.List.{flat_map}
use Rattle.agenda_machine.specs.Unknown.{unknown_path}
use Rattle.agenda_machine.proofs.unknown.add_paths.Given as goal

-- what is unknown so far, with that of what is left, is all
abbrev pub invariant-loop-one : goal.invariant-loop-one
invariant-loop-one l =
    l.all.items ++ flat_map (unknown_path l.root) (drop l.one-index l.skipped)
    ≡ l.initial.all.items ++ flat_map (unknown_path l.root) l.skipped
