use Rattle.std.proofs.Common.{◌≡◌, ◌++◌, drop}
use Rattle.agenda_machine.specs.Unknown.{names_at}
use Rattle.agenda_machine.proofs.unknown.names_at.Given as goal

-- the names so far, with those of the sources that are left, are all
abbrev pub invariant-loop-source : goal.invariant-loop-source
invariant-loop-source l =
    l.names.items ++ names_at l.root (drop l.source-index l.sources) l.path l.line ≡ names_at l.root l.sources l.path l.line
