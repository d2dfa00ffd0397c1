-- The law of the table of changes (agenda).
use Rattle.std.specs.Prelude.{◌≡◌, ℕ, if◌then◌else◌, List, count_by}
use Rattle.std.specs.List.{list_any}
use Rattle.std.specs.Str.{bytes_eq}
use Rattle.plan_baseline.specs.Line.{Line}
use Rattle.agenda_changes.specs.Rows.{firsts}

-- what a start runs is there once, and what no start runs isn't there
abbrev pub EachHasRow : Type 0
EachHasRow = (lines : List Line) (runs : List ℕ)
    → count_by (λ first. bytes_eq runs first.0) (firsts lines) ≡ (if list_any (λ line. bytes_eq runs line.runs) lines then 1 else 0)
