use Rattle.std.proofs.Common.{◌≡◌, ◌++◌, string_bytes, take}
use Rattle.std.specs.List.{flat_map}
use Rattle.agenda_table.specs.Scripts.{more_name}
use Rattle.agenda_table.proofs.scripts.push_more.Given as goal

-- the names so far were appended
abbrev pub invariant-loop-script : goal.invariant-loop-script
invariant-loop-script l = string_bytes l.text ≡ string_bytes l.initial.text ++ flat_map more_name (take l.script-index l.scripts)
