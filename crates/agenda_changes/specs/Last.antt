-- The last line of the table of changes (agenda).
use Rattle.std.specs.Prelude.{ℕ, ◌==◌, List, ◌++◌, codes, count_by, decimal}
use Rattle.plan_changes.specs.Changes.{kind_number}
use Rattle.plan_changes.specs.declared.Change.{Change}
use Rattle.plan_changes.specs.declared.ChangeKind.{ChangeKind}
use Rattle.plan_changes.specs.declared.ChangeKind.TheVariants.{Added, Removed}
use Rattle.agenda_table.specs.Last.{plural}
use Rattle.agenda_table.specs.Rows.{LookParts, start_text}

-- how many changes are of a kind
abbrev pub count_with : ChangeKind → List Change → ℕ
count_with kind changes = count_by (λ change. kind_number change.kind == kind_number kind) changes

-- how many starts there are fewer, and how many more
abbrev pub counts_text : List Change → List ℕ
counts_text changes =
    decimal (count_with Removed changes) ++ (codes " start" ++ (plural (count_with Removed changes) ++ (codes " fewer, "
    ++ (decimal (count_with Added changes) ++ codes " more"))))

-- the last line: how many starts there are fewer, and how many more, the span, and the zone
abbrev pub change_text : LookParts → List Change → (since upto : ℕ) → (zone : List ℕ) → List ℕ
change_text look changes since upto zone =
    counts_text changes
    ++ (codes ", from " ++ (start_text look since ++ (codes " to " ++ (start_text look upto ++ (codes ", " ++ zone)))))
