-- What is said where an agenda has no gap that is long enough (agenda).
use Rattle.std.specs.Prelude.{ℕ, ◌-◌, max, List, [], ◌∷◌, ◌++◌, codes, Option, None, Some, slice_get}
use Rattle.std.specs.List.{flat_map}
use Rattle.plan_collect.specs.Agenda.{Planned}
use Rattle.plan_rules.specs.Job.{JobParts}
use Rattle.plan_write.specs.Quiet.{gaps}
use Rattle.plan_write.specs.Shown.{shown}
use Rattle.agenda_cover.specs.Cover.{covers}
use Rattle.agenda_cover.specs.Lengths.{length_text}
use Rattle.agenda_cover.specs.Ranking.{most_covering}

-- the length of the longest of gaps, or 0 if there is none
abbrev pub longest : List (ℕ × ℕ) → ℕ
longest [] = 0
longest (gap ∷ later) = max (gap.1 - gap.0) (longest later)

-- the length of the longest gap of an agenda of jobs, which has at least 1 second; 0 if there is no gap
abbrev pub longest_gap : Planned → List JobParts → ℕ
longest_gap made jobs = longest (gaps 1 made jobs)

-- the name of a job, as it is shown
abbrev pub name_text : Option JobParts → List ℕ
name_text None = []
name_text (Some job) = shown job.name

-- the name of the job with a number, and how much it covers
abbrev pub job_text : List JobParts → (number seconds : ℕ) → List ℕ
job_text jobs number seconds = name_text (slice_get jobs number) ++ (codes " (" ++ (length_text seconds ++ codes ")"))

-- the jobs that cover most
abbrev pub jobs_text : List JobParts → List (ℕ × ℕ) → List ℕ
jobs_text jobs [] = []
jobs_text jobs (most ∷ others) =
    codes ", and these cover the most: " ++ (job_text jobs most.0 most.1
    ++ flat_map (λ other. codes ", " ++ job_text jobs other.0 other.1) others)

-- the line: the minimum length, that of the longest gap, and the jobs that cover most
abbrev pub line_text : (least longest : ℕ) → List JobParts → (most : List (ℕ × ℕ)) → List ℕ
line_text least longest jobs most =
    codes "agenda: no gap of " ++ (length_text least ++ (codes ": the longest is " ++ (length_text longest
    ++ (jobs_text jobs most ++ codes "\n"))))

-- the line of an agenda of jobs
abbrev pub no_gap_line : (least : ℕ) → Planned → List JobParts → List ℕ
no_gap_line least made jobs = line_text least (longest_gap made jobs) jobs (most_covering (covers made jobs))

-- a line if there are no gaps, and none otherwise
abbrev pub if_none : (gaps : List (ℕ × ℕ)) → (line : List ℕ) → Option (List ℕ)
if_none [] line = Some line
if_none (gap ∷ later) line = None

-- what is said about an agenda of jobs: why it has no gap of at least `least` seconds, if it has none
abbrev pub remark : (least : ℕ) → Planned → List JobParts → Option (List ℕ)
remark least made jobs = if_none (gaps least made jobs) (no_gap_line least made jobs)
