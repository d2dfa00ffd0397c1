-- When two clocks are equal: if they have the same changes.
use Rattle.std.specs.Prelude.{◌≡◌, Bool, ◌&&◌, ◌==◌, List}
use Rattle.std.specs.Bool.{Decides}
use Rattle.std.specs.Cmp.{IsEquivalence, IsPartialEquivalence, partial_equiv_from_equiv, decided, signed_Decides, unsigned_Decides}
use Rattle.std.specs.Cmp.Lexicographic.{pointwise, pointwise_decides}
use Rattle.std.specs.Ordering.{int_eq}
use Rattle.std.proofs.Common.{ap}
use Rattle.std.proofs.lemmas.Bool.Decides.{Decides-and, Decides-like}
use Rattle.plan_clock.specs.declared.row.Change.{Change}

-- whether two changes have the same second and the same offset
abbrev pub same_change : Change → Change → Bool
same_change a b = (a.second == b.second) && int_eq a.offset b.offset

-- whether two lists have the same changes, in the same order (agenda)
abbrev pub same_changes : List Change → List Change → Bool
same_changes a b = pointwise same_change a b

-- the fields of two changes are the same
abbrev ChangePartsAre : Change → Change → Type 0
ChangePartsAre a b = (a.second ≡ b.second) × (a.offset ≡ b.offset)

change_from_parts : (a b : Change) → ChangePartsAre a b → a ≡ b
change_from_parts a b same = λ i. record { second = same.0 i; offset = same.1 i }

parts_from_change : (a b : Change) → a ≡ b → ChangePartsAre a b
parts_from_change a b same = (ap (λ (c : Change). c.second) same, ap (λ (c : Change). c.offset) same)

same_change-Decides : (a b : Change) → Decides (same_change a b) (a ≡ b)
same_change-Decides a b =
    Decides-like _ (change_from_parts a b) (parts_from_change a b)
    (Decides-and _ _ (unsigned_Decides a.second b.second) (signed_Decides a.offset b.offset))

-- the test of two lists of changes decides whether they are equal
pub same_changes-Decides : (a b : List Change) → Decides (same_changes a b) (a ≡ b)
same_changes-Decides a b = pointwise_decides same_change-Decides a b

pub same_changes_equivalence : IsEquivalence same_changes
same_changes_equivalence = decided same_changes same_changes-Decides

pub same_changes_laws : IsPartialEquivalence same_changes
same_changes_laws = partial_equiv_from_equiv same_changes_equivalence
