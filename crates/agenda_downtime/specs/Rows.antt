-- The rows of the table of what jobs miss: a row is a list of cells, and a cell a list of characters. The head is the first row
-- (agenda).
use Rattle.std.specs.Prelude.{ℕ, List, [], ◌∷◌, chars, codes, decimal, slice_get, Option, None, Some}
use Rattle.std.specs.List.{filter_map, flat_map}
use Rattle.plan_rules.specs.Job.{JobParts}
use Rattle.plan_write.specs.Texts.{run_text}
use Rattle.plan_downtime.specs.Missed.{MissedParts}
use Rattle.plan_downtime.specs.Outcome.{outcome_name}
use Rattle.agenda_table.specs.Rows.{LookParts, start_text}

-- ---- what the rows have

-- what a row has: what a job misses, the job's name, and what it runs
pub record MissedTexts : Type 0 where
  pub missed : MissedParts
  pub name : List ℕ
  pub runs : List ℕ

-- what the row of a job has
abbrev pub texts_of : MissedParts → JobParts → MissedTexts
texts_of missed job = record { missed = missed; name = job.name; runs = run_text job.user job.command }

-- the same, if there is such a job
abbrev pub texts_if : MissedParts → Option JobParts → Option MissedTexts
texts_if missed None = None
texts_if missed (Some job) = Some (texts_of missed job)

-- what the rows have of what these jobs miss, in the same order
abbrev pub missed_texts : List JobParts → List MissedParts → List MissedTexts
missed_texts jobs missed = filter_map (λ one. texts_if one (slice_get jobs one.job)) missed

-- the times in the rows: the first and the last start of each job
abbrev pub missed_times : List MissedTexts → List ℕ
missed_times rows = flat_map (λ row. row.missed.first ∷ row.missed.last ∷ []) rows

-- ---- the cells

-- the cells of these texts, in the columns of the table
abbrev pub downtime_cells : (first last count outcome name runs : List ℕ) → List (List ℕ)
downtime_cells first last count outcome name runs =
    chars first ∷ chars last ∷ chars count ∷ chars outcome ∷ chars name ∷ chars runs ∷ []

-- the row of a job: the times of its first and its last start, how many there are, what becomes of them, its name, and what it runs
abbrev pub downtime_row : LookParts → MissedTexts → List (List ℕ)
downtime_row look row =
    downtime_cells (start_text look row.missed.first) (start_text look row.missed.last) (decimal row.missed.count)
    (outcome_name row.missed.outcome) row.name row.runs

-- the rows of the table, the head first
abbrev pub downtime_rows : LookParts → List MissedTexts → List (List (List ℕ))
downtime_rows look rows =
    downtime_cells (codes "FIRST") (codes "LAST") (codes "COUNT") (codes "THEN") (codes "JOB") (codes "RUNS")
    ∷ flat_map (λ row. downtime_row look row ∷ []) rows
