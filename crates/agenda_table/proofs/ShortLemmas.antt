-- No row has more than 6 cells.
use Rattle.std.proofs.Common.{ℕ, Bool, true, false, List, [], ◌∷◌, ◌++◌, length, refl, ◌∙◌}
use Rattle.std.specs.Prelude.{◌-◌, codes, if◌then◌else◌, nat_le, nat_lt, slice_get, Option, None, Some}
use Rattle.std.specs.List.{flat_map, list_all}
use Rattle.std.proofs.lemmas.Bool.{and_from}
use Rattle.std.proofs.lemmas.List.Folds.{list_all-append}
use Rattle.plan_write.specs.Upcoming.{start_or_none}
use Rattle.agenda_table.specs.Layout.{AreShort}
use Rattle.agenda_table.specs.Times.{length_text}
use Rattle.agenda_table.specs.Rows.{JobTexts, LookParts, distance_head, distance_if, gap_cells, gap_row, gap_rows, job_cells, job_head, job_rows, later_text, latest_or_word, none_rows, rows_of_job, rows_of_start, start_cells, start_rows, start_text, start_or_word, text_if}

job_cells_short : (start : List ℕ) (latest distance : Option (List ℕ)) (name runs : List ℕ) → AreShort (job_cells start latest distance name runs ∷ [])
job_cells_short start None None name runs = refl
job_cells_short start None (Some distance) name runs = refl
job_cells_short start (Some latest) None name runs = refl
job_cells_short start (Some latest) (Some distance) name runs = refl

gap_cells_short : (start end : List ℕ) (distance : Option (List ℕ)) (size : List ℕ) → AreShort (gap_cells start end distance size ∷ [])
gap_cells_short start end None size = refl
gap_cells_short start end (Some distance) size = refl

both_short : (xs ys : List (List (List ℕ))) → AreShort xs → AreShort ys → AreShort (xs ++ ys)
both_short xs ys one two =
    list_all-append (λ (row : List (List ℕ)). nat_le (length row) 6) xs ys
    ∙ and_from (list_all (λ (row : List (List ℕ)). nat_le (length row) 6) xs)
    (list_all (λ (row : List (List ℕ)). nat_le (length row) 6) ys) one two

job_short : (look : LookParts) (delays : Bool) (at : Option ℕ) (job : Option JobTexts) → AreShort (rows_of_job look delays at job)
job_short look delays at None = refl
job_short look delays at (Some job) =
    job_cells_short (start_or_word look at) (text_if delays (latest_or_word look job.delay at)) (distance_if look.origin at)
    job.name job.runs

later_short :
    (look : LookParts) (delays : Bool) (starts : List (ℕ × ℕ)) (jobs : List JobTexts) →
    AreShort (flat_map (λ start. rows_of_job look delays (start_or_none start.0) (slice_get jobs start.1)) starts)
later_short look delays [] jobs = refl
later_short look delays (start ∷ starts) jobs =
    both_short (rows_of_job look delays (start_or_none start.0) (slice_get jobs start.1))
    (flat_map (λ start. rows_of_job look delays (start_or_none start.0) (slice_get jobs start.1)) starts)
    (job_short look delays (start_or_none start.0) (slice_get jobs start.1)) (later_short look delays starts jobs)

-- the rows of starts of jobs
pub jobs_short : (look : LookParts) (delays : Bool) (starts : List (ℕ × ℕ)) (jobs : List JobTexts) → AreShort (job_rows look delays starts jobs)
jobs_short look delays starts jobs =
    both_short (job_head look.origin delays ∷ [])
    (flat_map (λ start. rows_of_job look delays (start_or_none start.0) (slice_get jobs start.1)) starts)
    (job_cells_short (codes "START") (text_if delays (codes "LATEST")) (distance_head look.origin) (codes "JOB") (codes "RUNS"))
    (later_short look delays starts jobs)

later_gaps_short : (look : LookParts) (gaps : List (ℕ × ℕ)) → AreShort (flat_map (λ gap. gap_row look gap ∷ []) gaps)
later_gaps_short look [] = refl
later_gaps_short look (gap ∷ gaps) =
    both_short (gap_row look gap ∷ []) (flat_map (λ gap. gap_row look gap ∷ []) gaps)
    (gap_cells_short (start_text look gap.0) (later_text look gap.0 gap.1) (distance_if look.origin (Some gap.0))
    (length_text (gap.1 - gap.0))) (later_gaps_short look gaps)

-- the rows of gaps
pub gaps_short : (look : LookParts) (gaps : List (ℕ × ℕ)) → AreShort (gap_rows look gaps)
gaps_short look gaps =
    both_short (gap_cells (codes "START") (codes "END") (distance_head look.origin) (codes "LENGTH") ∷ [])
    (flat_map (λ gap. gap_row look gap ∷ []) gaps)
    (gap_cells_short (codes "START") (codes "END") (distance_head look.origin) (codes "LENGTH")) (later_gaps_short look gaps)

start_cells_short : (start : List ℕ) (distance : Option (List ℕ)) → AreShort (start_cells start distance ∷ [])
start_cells_short start None = refl
start_cells_short start (Some distance) = refl

start_short : (look : LookParts) (at : Option ℕ) → AreShort (rows_of_start look at)
start_short look None = refl
start_short look (Some n) = start_cells_short (start_text look n) (distance_if look.origin (Some n))

later_starts_short : (look : LookParts) (starts : List ℕ) → AreShort (flat_map (λ n. rows_of_start look (start_or_none n)) starts)
later_starts_short look [] = refl
later_starts_short look (n ∷ starts) =
    both_short (rows_of_start look (start_or_none n)) (flat_map (λ n. rows_of_start look (start_or_none n)) starts)
    (start_short look (start_or_none n)) (later_starts_short look starts)

none_short : (fewer : Bool) → AreShort (if fewer then start_cells (codes "none") None ∷ [] else [])
none_short true = refl
none_short false = refl

-- the rows of the next starts of a rule
pub starts_short : (look : LookParts) (count : ℕ) (starts : List ℕ) → AreShort (start_rows look count starts)
starts_short look count starts =
    let rows = flat_map (λ n. rows_of_start look (start_or_none n)) starts in
    both_short (start_cells (codes "START") (distance_head look.origin) ∷ []) (rows ++ none_rows count (length starts))
    (start_cells_short (codes "START") (distance_head look.origin))
    (both_short rows (none_rows count (length starts)) (later_starts_short look starts) (none_short (nat_lt (length starts) count)))
