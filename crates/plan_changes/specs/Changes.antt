-- What changed between two lists of starts (agenda).
use Rattle.std.specs.Prelude.{ℕ, ◌==◌, ◌&&◌, not, Bool, nat_le, if◌then◌else◌, List, ◌++◌, length, take, count_by, Option, None, Some, slice_get, IsPermutation}
use Rattle.std.specs.List.{filter_map, range_with_len}
use Rattle.std.specs.List.Sorted.{IsNonDecreasingBy, IsSorted}
use Rattle.std.specs.declared.cmp.Ordering.{Ordering}
use Rattle.std.specs.Ordering.{nat_cmp, ordering_then}
use Rattle.std.specs.Str.{bytes_eq}
use Rattle.plan_baseline.specs.Line.{Line}
use Rattle.plan_changes.specs.declared.change.Change.{Change}
use Rattle.plan_changes.specs.declared.change.ChangeKind.{ChangeKind}
use Rattle.plan_changes.specs.declared.change.ChangeKind.TheVariants.{Added, Removed}

-- two starts are the same if their seconds and what they run are: the names of their jobs may differ (agenda)
abbrev pub is_same : (one other : Line) → Bool
is_same one other = one.second == other.second && bytes_eq one.runs other.runs

-- how often a start is in a list
abbrev pub copies : Line → List Line → ℕ
copies line lines = count_by (is_same line) lines

-- whether another list lacks the start at a place of a list: it has no more copies of it than are before the place
abbrev pub is_lacking : (others lines : List Line) → (place : ℕ) → Line → Bool
is_lacking others lines place line = nat_le (copies line others) (copies line (take place lines))

-- the change of the start at a place of a list, if there is one and another list lacks it
abbrev pub change_by : ChangeKind → (others lines : List Line) → (place : ℕ) → Option Line → Option Change
change_by kind others lines place None = None
change_by kind others lines place (Some line) =
    if is_lacking others lines place line then Some (record { second = line.second; kind = kind; place = place }) else None

-- the same of a place
abbrev pub change_at : ChangeKind → (others lines : List Line) → (place : ℕ) → Option Change
change_at kind others lines place = change_by kind others lines place (slice_get lines place)

-- the changes of the starts of a list that another list lacks, in order
abbrev pub changes_of : ChangeKind → (others lines : List Line) → List Change
changes_of kind others lines = filter_map (change_at kind others lines) (range_with_len 0 (length lines))

-- removed starts are before added ones
abbrev pub kind_number : ChangeKind → ℕ
kind_number Removed = 0
kind_number Added = 1

-- the order of changes: by second, then removed starts before added ones, then by place
abbrev pub change_cmp : (one other : Change) → Ordering
change_cmp one other =
    ordering_then (nat_cmp one.second other.second)
    (ordering_then (nat_cmp (kind_number one.kind) (kind_number other.kind)) (nat_cmp one.place other.place))

-- the changes from one list of starts to another, in order: each start that the later list lacks is removed, and each that the
-- earlier one lacks is added
abbrev pub AreChanges : (before now : List Line) → List Change → Type 0
AreChanges before now changes =
    IsPermutation (changes_of Removed now before ++ changes_of Added before now) changes × IsSorted change_cmp changes

-- whether the lists differ
abbrev pub have_changed : (before now : List Line) → Bool
have_changed before now = not (length (changes_of Removed now before ++ changes_of Added before now) == 0)

-- the starts are in the order of their seconds
abbrev pub AreAscending : List Line → Type 0
AreAscending lines = IsNonDecreasingBy (λ line. line.second) lines
