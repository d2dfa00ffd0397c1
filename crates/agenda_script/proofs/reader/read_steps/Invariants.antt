use Rattle.std.proofs.Common.{◌≡◌, ◌+◌, ◌≤◌, map}
use Rattle.agenda_script.specs.Script.{most_steps}
use Rattle.agenda_script.proofs.ScriptLemmas.{AreRead}
use Rattle.agenda_script.proofs.reader.read_steps.Given as goal

-- the lines so far were read, and the next line has the number after them
abbrev pub invariant-loop-line : goal.invariant-loop-line
invariant-loop-line l = record {
  read : AreRead (map (λ line. line.now) l.lines) l.line-index l.steps.items;
  place : l.number ≡ l.line-index + 2;
  few : l.number ≤ most_steps + 2;
}
