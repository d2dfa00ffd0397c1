use Rattle.std.proofs.Common.{◌≡◌, max}
use Rattle.plan_sets.specs.Words.{AreUnused, AreWords}
use Rattle.plan_sets.proofs.RangeLemmas.{IsMarkedBefore}
use Rattle.plan_sets.proofs.value_set.ValueSet.insert_range.Given as goal

-- the words have the old bits, and those of the range that are before this word
abbrev pub invariant-loop-index : goal.invariant-loop-index
invariant-loop-index l = record {
  base : l.self-inside.base ≡ l.initial.self-inside.base;
  used : l.self-inside.used ≡ l.initial.self-inside.used;
  are_words : AreWords l.self-inside.words;
  are_unused : AreUnused l.self-inside.words (max l.initial.self-inside.used l.end);
  before : IsMarkedBefore l.initial.self-inside.words l.self-inside.words l.low l.high l.index;
}
