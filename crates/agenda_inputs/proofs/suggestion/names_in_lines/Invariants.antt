use Rattle.std.proofs.Common.{◌≡◌, ◌++◌, drop, map}
use Rattle.agenda_inputs.specs.Suggestion.{names_in_lines}
use Rattle.agenda_inputs.proofs.suggestion.names_in_lines.Given as goal

-- the names in the lines so far, and those in the lines that are left
abbrev pub invariant-loop-line : goal.invariant-loop-line
invariant-loop-line l =
    map (λ name. name.now) l.names.items ++ names_in_lines (map (λ line. line.now) (drop l.line-index l.lines))
    ≡ names_in_lines (map (λ line. line.now) l.lines)
