use Rattle.std.proofs.Common.{◌≡◌, ◌++◌, drop, filter, map}
use Rattle.agenda_inputs.specs.Suggestion.{ends_alike}
use Rattle.agenda_inputs.proofs.suggestion.alike.Given as goal

-- the names so far that end alike, and those among the names that are left
abbrev pub invariant-loop-name : goal.invariant-loop-name
invariant-loop-name l =
    map (λ name. name.now) l.alike.items ++ filter (ends_alike l.text) (map (λ name. name.now) (drop l.name-index l.names))
    ≡ filter (ends_alike l.text) (map (λ name. name.now) l.names)
