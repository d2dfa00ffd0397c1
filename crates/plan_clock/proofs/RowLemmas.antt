-- The row of a second.
-- For `have_passed`, `passed` and `Clock::stretch_near`.
use Rattle.std.proofs.Common.{◌≡◌, ℕ, ◌+◌, ◌-◌, ◌<◌, ◌≤◌, zero, suc, true, List, length, get_or, nat_le, ap, arith, inl, inr, ◌∙◌}
use Rattle.std.specs.List.{prefix_len}
use Rattle.std.proofs.lemmas.Bool.{le-leb, lt-leb}
use Rattle.std.specs.List.Sorted.{IsNonDecreasingBy}
use Rattle.std.proofs.lemmas.Bool.Decides.{nat_tests, leb_tells}
use Rattle.std.proofs.lemmas.List.{get_or_default}
use Rattle.std.proofs.lemmas.List.Sums.{prefix_len_is}
use Rattle.plan_clock.specs.declared.row.Change.{Change}
use Rattle.plan_clock.specs.declared.row.Row.{Row}
use Rattle.plan_clock.specs.Rows.{row_at, row_after, no_change, is_bounded, AreChanges, HavePassed}

-- a later change in the list is at no earlier second
rise_at :
    (changes : List Change) → AreChanges changes → (i j : ℕ) → i ≤ j → j < length changes →
    (get_or changes i no_change).second ≤ (get_or changes j no_change).second
rise_at changes are i zero le lt =
    let same : i ≡ zero = omega arith in
    rw same (omega arith)
rise_at changes are i (suc j) le lt = elim (leb_tells i j) [
  | inl below ↦
      let before = rise_at changes are i j below.1 (omega arith) in
      let next = are.ascends j (omega arith) in
      let last : (get_or changes (j + 1) no_change).second ≡ (get_or changes (suc j) no_change).second =
      ap (λ k. (get_or changes k no_change).second) (omega arith) in
      omega arith
  | inr above ↦
      let same : i ≡ suc j = omega arith in
      rw same (omega arith)
]

pub rise : (changes : List Change) → AreChanges changes → IsNonDecreasingBy (λ (change : Change). change.second) changes
rise changes are i j d le lt =
    let at_i = ap (λ (change : Change). change.second) (get_or_default changes i d no_change (omega arith)) in
    let at_j = ap (λ (change : Change). change.second) (get_or_default changes j d no_change lt) in
    let up = rise_at changes are i j le lt in
    omega arith

-- the row of a second is the row after the changes that have passed
pub row_at-passed : (changes : List Change) (n passed : ℕ) → HavePassed changes n passed → row_at changes n ≡ row_after changes passed
unfolding row_at
row_at-passed changes n passed have =
    ap (row_after changes) (prefix_len_is (λ (change : Change). nat_le change.second n) changes passed no_change have.bound
    (λ k lt. le-leb (get_or changes k no_change).second n (have.begun k lt))
    (λ lt. lt-leb (get_or changes passed no_change).second n (have.next lt)))

-- at a later second before the next change, the same number of changes have passed
pub HavePassed-later :
    (changes : List Change) (n m passed : ℕ) → HavePassed changes n passed → n ≤ m →
    (passed < length changes → m < (get_or changes passed no_change).second) → HavePassed changes m passed
HavePassed-later changes n m passed have le next = grind (arith, nat_tests)

bounded_after : (changes : List Change) (passed : ℕ) → AreChanges changes → is_bounded (row_after changes passed) ≡ true
bounded_after changes passed given = grind (arith, nat_tests)

pub bounded_at : (changes : List Change) (n : ℕ) → AreChanges changes → is_bounded (row_at changes n) ≡ true
unfolding row_at
bounded_at changes n are = bounded_after changes (prefix_len (λ (change : Change). nat_le change.second n) changes) are

-- the last change that has passed and the one after it give the number of changes that have passed
pub HavePassed-by :
    (changes : List Change) (n passed : ℕ) → AreChanges changes → 0 < passed → passed ≤ length changes →
    (get_or changes (passed - 1) no_change).second ≤ n → (passed < length changes → n < (get_or changes passed no_change).second) →
    HavePassed changes n passed
HavePassed-by changes n passed are some bound last next = record {
  bound = bound;
  begun = λ k lt. (let up = rise_at changes are k (passed - 1) (omega arith) (omega arith) in omega arith);
  next = next;
}

-- the row after some changes begins with the last of them
second_after :
    (changes : List Change) (passed : ℕ) → 0 < passed →
    (row_after changes passed).second ≡ (get_or changes (passed - 1) no_change).second
second_after changes passed some = grind (arith, nat_tests)

-- a row begins at the second of each change
pub begins_at :
    (changes : List Change) (place : ℕ) → AreChanges changes → place < length changes →
    (row_at changes (get_or changes place no_change).second).second ≡ (get_or changes place no_change).second
begins_at changes place are lt =
    let at = (get_or changes place no_change).second in
    let last : (get_or changes (place + 1 - 1) no_change).second ≡ at = ap (λ k. (get_or changes k no_change).second) (omega arith) in
    let have = HavePassed-by changes at (place + 1) are (omega arith) (omega arith) (omega arith) (λ more. are.ascends place more) in
    ap (λ (row : Row). row.second) (row_at-passed changes at (place + 1) have) ∙ second_after changes (place + 1) (omega arith) ∙ last
