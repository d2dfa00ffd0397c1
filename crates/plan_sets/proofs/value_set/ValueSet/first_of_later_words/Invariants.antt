use Rattle.std.proofs.Common.{◌≡◌, ℕ, ◌+◌, ◌*◌, ◌<◌, ◌≤◌, false}
use Rattle.plan_sets.specs.Words.{is_marked, word_bits}
use Rattle.plan_sets.proofs.value_set.ValueSet.first_of_later_words.Given as goal

-- no bit of the words after the given one so far is 1
abbrev pub invariant-loop-later : goal.invariant-loop-later
invariant-loop-later l =
    (j : ℕ) → (l.index + 1) * word_bits ≤ j → j < l.later * word_bits → is_marked l.self-inside.words j ≡ false
