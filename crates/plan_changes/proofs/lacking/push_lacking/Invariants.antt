use Rattle.std.proofs.Common.{◌≡◌, ◌++◌, ◌-◌, ◌<◌, ◌≤◌, ℕ, List, length}
use Rattle.plan_baseline.specs.Line.{Line}
use Rattle.plan_changes.specs.Keys.{AreEachOnce, AreKeysOf}
use Rattle.plan_changes.proofs.CompareLemmas.{changes_before}
use Rattle.plan_changes.proofs.KeyLemmas.{IsCounted, key_in}
use Rattle.plan_changes.proofs.lacking.push_lacking.Given as goal

-- the others so far that aren't after the key were added
abbrev pub invariant-loop-at : goal.invariant-loop-at
invariant-loop-at g l = record {
  counted : (low : ℕ) × (low ≤ l.key.second)
      × IsCounted (g.O.Keys.keys l.others) (g.K.Keys.keys l.keys) l.at l.place low l.counts.counts.items;
  texts : length l.counts.counts.items ≡ l.texts;
}

abbrev pub decreases-loop-at : goal.decreases-loop-at
decreases-loop-at g l = length (g.O.Keys.keys l.others) - l.at

-- the keys before the place were taken away, and the changes of their starts appended
abbrev pub invariant-loop-place : goal.invariant-loop-place
invariant-loop-place g l = record {
  counted : (low : ℕ) × ((i : ℕ) → l.place ≤ i → i < length (g.K.Keys.keys l.keys) → low ≤ (key_in (g.K.Keys.keys l.keys) i).second)
      × IsCounted (g.O.Keys.keys l.others) (g.K.Keys.keys l.keys) l.at l.place low l.counts.counts.items;
  texts : length l.counts.counts.items ≡ l.texts;
  changes : (all : List (List ℕ)) (lines other_lines : List Line) → AreEachOnce all → AreKeysOf all lines (g.K.Keys.keys l.keys) →
      AreKeysOf all other_lines (g.O.Keys.keys l.others) →
      l.changes.items ≡ l.initial.changes.items ++ changes_before l.kind other_lines lines l.place;
}
