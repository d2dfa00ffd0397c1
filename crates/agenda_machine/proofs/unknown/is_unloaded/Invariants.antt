use Rattle.std.proofs.Common.{◌≡◌, drop}
use Rattle.std.specs.List.{list_any}
use Rattle.agenda_machine.specs.Unknown.{is_unloaded}
use Rattle.agenda_machine.proofs.unknown.is_unloaded.Given as goal

-- nothing so far has the line
abbrev pub invariant-loop-one : goal.invariant-loop-one
invariant-loop-one l =
    list_any (is_unloaded l.root l.path l.line) (drop l.one-index l.unplanned)
    ≡ list_any (is_unloaded l.root l.path l.line) l.unplanned
