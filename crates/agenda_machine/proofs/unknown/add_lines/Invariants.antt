use Rattle.std.proofs.Common.{◌≡◌, ◌++◌, drop}
use Rattle.std.specs.List.{flat_map}
use Rattle.agenda_machine.specs.Unknown.{unknown_line}
use Rattle.agenda_machine.proofs.unknown.add_lines.Given as goal

-- what is unknown so far, with that of what is left, is all
abbrev pub invariant-loop-error : goal.invariant-loop-error
invariant-loop-error l =
    let f = unknown_line l.reading.root.now l.reading.machine.now.sources.items l.reading.machine.now.unplanned.items l.reading.paths.now in
    l.all.items ++ flat_map f (drop l.error-index l.error-items) ≡ l.initial.all.items ++ flat_map f l.error-items
