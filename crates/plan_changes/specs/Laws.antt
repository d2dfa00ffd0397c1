-- The laws of changes (agenda).
use Rattle.std.specs.Prelude.{◌≡◌, ◌↔◌, ℕ, ◌-◌, ◌==◌, ◌&&◌, Bool, false, List, [], count_by, Option, None, Some, slice_get}
use Rattle.plan_baseline.specs.Line.{Line}
use Rattle.plan_changes.specs.declared.change.Change.{Change}
use Rattle.plan_changes.specs.declared.change.ChangeKind.{ChangeKind}
use Rattle.plan_changes.specs.declared.change.ChangeKind.TheVariants.{Added, Removed}
use Rattle.plan_changes.specs.Changes.{AreChanges, copies, is_same, kind_number}

-- whether a start is there and the same as another
abbrev pub is_start : Line → Option Line → Bool
is_start line None = false
is_start line (Some other) = is_same line other

-- whether a change is of this kind, and the start at its place of a list is the same as another
abbrev pub is_change : ChangeKind → (lines : List Line) → Line → Change → Bool
is_change kind lines line change =
    kind_number change.kind == kind_number kind && is_start line (slice_get lines change.place)

-- how many of the changes are of this kind and of this start, which a list has
abbrev pub times_changed : ChangeKind → (lines : List Line) → Line → List Change → ℕ
times_changed kind lines line changes = count_by (is_change kind lines line) changes

-- a start is removed as often as the earlier list has it more often, and added as often as the later list does
abbrev pub ChangesAreDifferences : Type 0
ChangesAreDifferences = (before now : List Line) (changes : List Change) (line : Line) → AreChanges before now changes
    → (times_changed Removed before line changes ≡ copies line before - copies line now)
    × (times_changed Added now line changes ≡ copies line now - copies line before)

-- there are no changes exactly if both lists have each start equally often
abbrev pub NoChangesIfSame : Type 0
NoChangesIfSame = (before now : List Line) (changes : List Change) → AreChanges before now changes
    → (changes ≡ []) ↔ ((line : Line) → copies line before ≡ copies line now)
