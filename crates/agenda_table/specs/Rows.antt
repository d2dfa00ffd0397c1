-- The rows of tables: a row is a list of cells, and a cell a list of characters. The head is the first row (agenda).
use Rattle.std.specs.Prelude.{ℕ, ◌-◌, ◌==◌, nat_lt, Bool, true, false, if◌then◌else◌, List, [], ◌∷◌, ◌++◌, length, chars, codes, slice_get, Option, None, Some, option_map, refl}
use Rattle.std.specs.Coded.{Coded, code_by, coded×, coded_list, coded_option, coded_ℕ}
use Rattle.std.specs.List.{flat_map, list_any}
use Rattle.arrayvec.specs.ArrayString.{ArrayString}
use Rattle.plan_clock.specs.Rows.{change_code}
use Rattle.plan_clock.specs.declared.row.Change.{Change}
use Rattle.plan_collect.specs.Windows.{latest_start}
use Rattle.plan_rules.specs.Job.{JobParts}
use Rattle.plan_write.specs.Texts.{run_text}
use Rattle.plan_write.specs.Upcoming.{start_or_none}
use Rattle.agenda_table.specs.Times.{clock_text, date_of, face, from_now_text, length_text, time_text}

-- ---- how times are shown

-- whether a date is one of these
abbrev pub has_date : (dates : List ℕ) → (date : ℕ) → Bool
has_date dates date = list_any (λ d. d == date) dates

-- how the times of a table are shown: by this clock, with the offset on these dates, and with a column `FROM NOW` if there is
-- a time from which times are counted
pub record LookParts : Type 0 where
  pub clock : List Change
  pub dates : List ℕ
  pub origin : Option ℕ

-- these are stored as the pairs of them
abbrev pub look_code : Coded LookParts
look_code =
    code_by (List Change × (List ℕ × Option ℕ)) (coded× (coded_list change_code) (coded× (coded_list coded_ℕ) (coded_option coded_ℕ)))
    (λ look. (look.clock, (look.dates, look.origin))) (λ t. record { clock = t.0; dates = t.1.0; origin = t.1.1 }) (λ _. refl)

-- a time with its date
abbrev pub start_text : LookParts → ℕ → List ℕ
start_text look n = time_text (has_date look.dates (date_of (face look.clock n))) (face look.clock n)

-- a time of a row, after another one: without its date if that is the date of the first
abbrev pub later_text : LookParts → (first n : ℕ) → List ℕ
later_text look first n =
    if date_of (face look.clock n) == date_of (face look.clock first)
    then clock_text (has_date look.dates (date_of (face look.clock n))) (face look.clock n)
    else start_text look n

-- ---- cells that not every table has

-- a cell, if there is one
abbrev pub cells_of : Option (List ℕ) → List (List ℕ)
cells_of None = []
cells_of (Some cell) = cell ∷ []

-- the bytes of a short text, if there is one
abbrev pub text_of : Option ArrayString → Option (List ℕ)
text_of text = option_map (λ (t : ArrayString). t.bytes) text

-- a text, if a table has it
abbrev pub text_if : (has : Bool) → List ℕ → Option (List ℕ)
text_if false text = None
text_if true text = Some text

-- how far away a time is, which is empty if there is no time
abbrev pub distance_text : (now : ℕ) → (at : Option ℕ) → List ℕ
distance_text now None = []
distance_text now (Some n) = from_now_text now n

-- the same, if the table counts from a time
abbrev pub distance_if : (now : Option ℕ) → (at : Option ℕ) → Option (List ℕ)
distance_if None at = None
distance_if (Some now) at = Some (distance_text now at)

-- the head of its column
abbrev pub distance_head : (now : Option ℕ) → Option (List ℕ)
distance_head None = None
distance_head (Some now) = Some (codes "FROM NOW")

-- ---- the starts of jobs

-- what the rows of a job have of it: its name, what it runs, and its delay in seconds
pub record JobTexts : Type 0 where
  pub name : List ℕ
  pub runs : List ℕ
  pub delay : ℕ

-- these are stored as the pairs of them
abbrev pub job_texts_code : Coded JobTexts
job_texts_code =
    code_by (List ℕ × (List ℕ × ℕ)) (coded× (coded_list coded_ℕ) (coded× (coded_list coded_ℕ) coded_ℕ))
    (λ job. (job.name, (job.runs, job.delay))) (λ t. record { name = t.0; runs = t.1.0; delay = t.1.1 }) (λ _. refl)

-- what the rows of a job have of it
abbrev pub job_texts : JobParts → JobTexts
job_texts job = record { name = job.name; runs = run_text job.user job.command; delay = job.delay }

-- a start, or `none`
abbrev pub start_or_word : LookParts → (at : Option ℕ) → List ℕ
start_or_word look None = codes "none"
start_or_word look (Some n) = start_text look n

-- the latest start of a job with this delay, or `none`
abbrev pub latest_or_word : LookParts → (delay : ℕ) → (at : Option ℕ) → List ℕ
latest_or_word look delay None = codes "none"
latest_or_word look delay (Some n) = later_text look n (latest_start delay n)

-- the cells of these texts, in the columns of starts of jobs
abbrev pub job_cells : (start : List ℕ) → (latest distance : Option (List ℕ)) → (name runs : List ℕ) → List (List ℕ)
job_cells start latest distance name runs =
    chars start ∷ (cells_of (option_map chars latest) ++ (cells_of (option_map chars distance) ++ chars name ∷ chars runs ∷ []))

-- the row of a job that starts at a time, if it starts; it has the latest start if delays count
abbrev pub job_row : LookParts → (delays : Bool) → (at : Option ℕ) → JobTexts → List (List ℕ)
job_row look delays at job =
    job_cells (start_or_word look at) (text_if delays (latest_or_word look job.delay at)) (distance_if look.origin at) job.name job.runs

-- the same, if there is such a job
abbrev pub rows_of_job : LookParts → (delays : Bool) → (at : Option ℕ) → Option JobTexts → List (List (List ℕ))
rows_of_job look delays at None = []
rows_of_job look delays at (Some job) = job_row look delays at job ∷ []

-- the head of starts of jobs
abbrev pub job_head : (now : Option ℕ) → (delays : Bool) → List (List ℕ)
job_head now delays =
    job_cells (codes "START") (text_if delays (codes "LATEST")) (distance_head now) (codes "JOB") (codes "RUNS")

-- the rows of starts of jobs, each a second and the number of a job: those of an agenda, or the next ones
abbrev pub job_rows : LookParts → (delays : Bool) → (starts : List (ℕ × ℕ)) → List JobTexts → List (List (List ℕ))
job_rows look delays starts jobs =
    job_head look.origin delays
    ∷ flat_map (λ start. rows_of_job look delays (start_or_none start.0) (slice_get jobs start.1)) starts

-- ---- gaps

-- the cells of these texts, in the columns of gaps
abbrev pub gap_cells : (start end : List ℕ) → (distance : Option (List ℕ)) → (size : List ℕ) → List (List ℕ)
gap_cells start end distance size =
    chars start ∷ chars end ∷ (cells_of (option_map chars distance) ++ chars size ∷ [])

-- the row of a gap: its start, its end, and its length
abbrev pub gap_row : LookParts → ℕ × ℕ → List (List ℕ)
gap_row look gap =
    gap_cells (start_text look gap.0) (later_text look gap.0 gap.1) (distance_if look.origin (Some gap.0))
    (length_text (gap.1 - gap.0))

-- the rows of gaps
abbrev pub gap_rows : LookParts → (gaps : List (ℕ × ℕ)) → List (List (List ℕ))
gap_rows look gaps =
    gap_cells (codes "START") (codes "END") (distance_head look.origin) (codes "LENGTH")
    ∷ flat_map (λ gap. gap_row look gap ∷ []) gaps

-- ---- the next starts of a rule

-- the cells of these texts, in the columns of starts of a rule
abbrev pub start_cells : (start : List ℕ) → (distance : Option (List ℕ)) → List (List ℕ)
start_cells start distance = chars start ∷ cells_of (option_map chars distance)

-- the row of a start, if it is one
abbrev pub rows_of_start : LookParts → (at : Option ℕ) → List (List (List ℕ))
rows_of_start look None = []
rows_of_start look (Some n) = start_cells (start_text look n) (distance_if look.origin (Some n)) ∷ []

-- the row after the last start of a rule, if there are fewer starts than requested
abbrev pub none_rows : (count found : ℕ) → List (List (List ℕ))
none_rows count found = if nat_lt found count then start_cells (codes "none") None ∷ [] else []

-- the rows of the next starts of a rule, of which so many are requested
abbrev pub start_rows : LookParts → (count : ℕ) → (starts : List ℕ) → List (List (List ℕ))
start_rows look count starts =
    start_cells (codes "START") (distance_head look.origin)
    ∷ (flat_map (λ n. rows_of_start look (start_or_none n)) starts ++ none_rows count (length starts))
