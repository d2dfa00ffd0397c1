-- The last line of the table of what jobs miss (agenda).
use Rattle.std.specs.Prelude.{ℕ, Bool, true, false, List, ◌++◌, codes, count_by, decimal, length}
use Rattle.plan_downtime.specs.declared.outcome.Outcome.{Outcome}
use Rattle.plan_downtime.specs.declared.outcome.Outcome.TheVariants.{AtBoot, Lost, MadeUp}
use Rattle.agenda_table.specs.Last.{plural}
use Rattle.agenda_table.specs.Rows.{LookParts, start_text}
use Rattle.agenda_downtime.specs.Rows.{MissedTexts}

-- whether two outcomes are the same
abbrev pub is_same : Outcome → Outcome → Bool
is_same Lost Lost = true
is_same MadeUp MadeUp = true
is_same AtBoot AtBoot = true
is_same one other = false

-- how many rows have an outcome
abbrev pub count_with : Outcome → List MissedTexts → ℕ
count_with outcome rows = count_by (λ row. is_same row.missed.outcome outcome) rows

-- how many jobs miss something, and how many of them have each outcome
abbrev pub outcomes_text : List MissedTexts → List ℕ
outcomes_text rows =
    decimal (length rows) ++ (codes " job" ++ (plural (length rows) ++ (codes ": "
    ++ (decimal (count_with Lost rows) ++ (codes " lost, " ++ (decimal (count_with MadeUp rows) ++ (codes " made up, "
    ++ (decimal (count_with AtBoot rows) ++ codes " at boot"))))))))

-- the last line: how many jobs miss something with each outcome, the downtime from its start to its end, and the zone
abbrev pub missed_text : LookParts → List MissedTexts → (since upto : ℕ) → (zone : List ℕ) → List ℕ
missed_text look rows since upto zone =
    outcomes_text rows
    ++ (codes "; down from " ++ (start_text look since ++ (codes " to " ++ (start_text look upto ++ (codes ", " ++ zone)))))
