use Rattle.std.proofs.Common.{◌≡◌, ◌++◌, drop}
use Rattle.std.specs.List.{flat_map}
use Rattle.agenda_machine.specs.Unknown.{unknown_job}
use Rattle.agenda_machine.proofs.unknown.add_jobs.Given as goal

-- what is unknown so far, with that of what is left, is all
abbrev pub invariant-loop-one : goal.invariant-loop-one
invariant-loop-one l =
    let f = unknown_job l.reading.root.now l.reading.machine.now.sources.items in
    l.all.items ++ flat_map f (drop l.one-index l.one-items) ≡ l.initial.all.items ++ flat_map f l.one-items
