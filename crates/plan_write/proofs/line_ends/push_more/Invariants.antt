use Rattle.std.proofs.Common.{◌≡◌, ◌++◌, take}
use Rattle.std.specs.List.{flat_map}
use Rattle.plan_write.specs.Texts.{more_string}
use Rattle.plan_write.proofs.line_ends.push_more.Given as goal

-- the strings so far were appended
abbrev pub invariant-loop-string : goal.invariant-loop-string
invariant-loop-string l = l.text.items ≡ l.initial.text.items ++ flat_map more_string (take l.string-index l.strings)
