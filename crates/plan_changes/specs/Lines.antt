-- The lines of a new agenda (agenda).
use Rattle.std.specs.Prelude.{ℕ, List, [], map, slice_get, unwrap_or}
use Rattle.plan_rules.specs.Job.{JobParts}
use Rattle.plan_write.specs.Texts.{run_text}
use Rattle.plan_baseline.specs.Line.{Line}

-- the name of a job and what it runs
abbrev pub job_texts : JobParts → List ℕ × List ℕ
job_texts job = (job.name, run_text job.user job.command)

-- the name of the job with a number and what it runs; both are empty if there is no such job
abbrev pub texts_at : (jobs : List (List ℕ × List ℕ)) → (number : ℕ) → List ℕ × List ℕ
texts_at jobs number = unwrap_or (slice_get jobs number) ([], [])

-- the line of an entry
abbrev pub line_of_entry : (jobs : List (List ℕ × List ℕ)) → (entry : ℕ × ℕ) → Line
line_of_entry jobs entry =
    record { second = entry.0; job = (texts_at jobs entry.1).0; runs = (texts_at jobs entry.1).1 }

-- the lines of entries, in order
abbrev pub lines_of : (jobs : List (List ℕ × List ℕ)) → (entries : List (ℕ × ℕ)) → List Line
lines_of jobs entries = map (line_of_entry jobs) entries
