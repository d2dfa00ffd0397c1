use Rattle.std.proofs.Common.{◌≡◌, drop}
use Rattle.agenda_machine.specs.Scripts.{scripts_at}
use Rattle.agenda_machine.proofs.scripts.scripts_at.Given as goal

-- the line is none of those so far
abbrev pub invariant-loop-one : goal.invariant-loop-one
invariant-loop-one l = scripts_at l.lines l.line ≡ scripts_at (drop l.one-index l.lines) l.line
