use Rattle.std.proofs.Common.{◌≡◌, ◌++◌, map, string_bytes, take}
use Rattle.agenda_arguments.proofs.machine.push_copies.Given as goal

-- the words so far follow those from before the loop
abbrev pub invariant-loop-word : goal.invariant-loop-word
invariant-loop-word l =
    map string_bytes l.copies.items ≡ map string_bytes l.fn.copies.items ++ map string_bytes (take l.word-index l.words)
