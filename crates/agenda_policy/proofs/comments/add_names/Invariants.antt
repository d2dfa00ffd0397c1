use Rattle.std.proofs.Common.{◌++◌, drop, map}
use Rattle.std.specs.List.{filter_map}
use Rattle.agenda_codes.specs.Codes.{code_named}
use Rattle.agenda_policy.specs.Comments.{AreSame}
use Rattle.agenda_policy.proofs.comments.add_names.Given as goal

-- the codes so far, with those of the names that are left
abbrev pub invariant-loop-name : goal.invariant-loop-name
invariant-loop-name l =
    AreSame (l.codes.items ++ filter_map code_named (map (λ name. name.now) (drop l.name-index l.names)))
    (l.initial.codes.items ++ filter_map code_named (map (λ name. name.now) l.names))
