use Rattle.std.proofs.Common.{◌≡◌, ◌++◌, string_bytes}
use Rattle.std.specs.List.{flat_map}
use Rattle.plan_write.specs.Shown.{shown_char}
use Rattle.plan_write.proofs.shown.push_shown.Given as goal

-- the text has the characters so far
abbrev pub invariant-loop-c : goal.invariant-loop-c
invariant-loop-c l = string_bytes l.whole ≡ string_bytes l.initial.whole ++ flat_map shown_char l.yielded
