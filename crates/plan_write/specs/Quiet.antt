-- The gaps of an agenda, in which no job may start (agenda).
use Rattle.std.specs.Prelude.{◌≡◌, ℕ, ◌+◌, ◌-◌, ◌<◌, ◌≤◌, ◌&&◌, Bool, true, false, nat_le, nat_lt, max, if◌then◌else◌, List, [], ◌∷◌, ◌++◌, map, filter, codes, decimal, Option, Some, None, slice_get}
use Rattle.std.specs.List.{flat_map}
use Rattle.plan_next.specs.Starts.{is_start}
use Rattle.plan_rules.specs.Delays.{nominal}
use Rattle.plan_rules.specs.Job.{JobParts}
use Rattle.plan_collect.specs.Span.{Bounds}
use Rattle.plan_collect.specs.Agenda.{Planned, planned, rules_of}
use Rattle.plan_collect.specs.Windows.{planned_windows, timings_of}
use Rattle.plan_write.specs.TimeFields.{field_text}
use Rattle.plan_write.specs.declared.formats.Format.{Format}
use Rattle.plan_write.specs.declared.time_fields.TimeField.TheVariants.{From, Until}

-- the delay of a job, or 0 if there is no such job
abbrev pub delay_of : Option JobParts → ℕ
delay_of None = 0
delay_of (Some job) = job.delay

-- the window of an entry: from its time to that time and the delay of its job, both included
abbrev pub window_of : List JobParts → (entry : ℕ × ℕ) → ℕ × ℕ
window_of jobs entry = (entry.0, entry.0 + delay_of (slice_get jobs entry.1))

-- what is between windows that open in this order: before each of them, from where those so far reach, and after the last
-- of them, up to the end. Where windows overlap, the second number of a pair isn't above the first
abbrev pub between : (reach upto : ℕ) → (windows : List (ℕ × ℕ)) → List (ℕ × ℕ)
between reach upto [] = (reach, upto) ∷ []
between reach upto (window ∷ later) = (reach, window.0) ∷ between (max reach window.1) upto later

-- whether a pair is a gap of at least this many seconds
abbrev pub is_gap : (least : ℕ) → ℕ × ℕ → Bool
is_gap least pair = nat_lt pair.0 pair.1 && nat_le least (pair.1 - pair.0)

-- the gaps of at least this many seconds in an agenda of jobs: between the start of its span, the windows of its entries, and
-- the span's end
abbrev pub gaps : (least : ℕ) → Planned → List JobParts → List (ℕ × ℕ)
gaps least made jobs = filter (is_gap least) (between made.span.since made.span.upto (map (window_of jobs) made.entries))

-- the member of the seconds of a gap, in decimal, and the end of its object
abbrev pub seconds_member : ℕ → List ℕ
seconds_member seconds = codes ",\"seconds\":" ++ (decimal seconds ++ codes "}\n")

-- the number of seconds of a gap, in decimal, and the end of its line
abbrev pub seconds_text : (json : Bool) → ℕ → List ℕ
seconds_text true seconds = seconds_member seconds
seconds_text false seconds = decimal seconds ++ codes "\n"

-- the line of a gap: the time of its start, that of its end, and the number of seconds between them
abbrev pub gap_line : Format → ℕ × ℕ → List ℕ
gap_line format gap =
    field_text format From (Some gap.0) ++ (field_text format Until (Some gap.1) ++ seconds_text format.json (gap.1 - gap.0))

-- the line of a pair, if it is such a gap
abbrev pub line_of_gap : Format → (least : ℕ) → ℕ × ℕ → List ℕ
line_of_gap format least pair = if is_gap least pair then gap_line format pair else []

-- a line for each gap, in order
abbrev pub quiet_text : Format → (least : ℕ) → Planned → List JobParts → List ℕ
quiet_text format least made jobs = flat_map (gap_line format) (gaps least made jobs)

-- no job may start between the start and the end of a gap of the agenda of its windows: at no second from one of its starts to
-- that start and its delay
abbrev pub NothingStartsInGaps : Type 0
NothingStartsInGaps = (jobs : List JobParts) (span : Bounds) (least place number start second : ℕ) (gap : ℕ × ℕ) (job : JobParts)
    → slice_get (gaps least (planned_windows (timings_of jobs) span) jobs) place ≡ Some gap → slice_get jobs number ≡ Some job
    → is_start job.rule start ≡ true → start ≤ second → second ≤ start + job.delay → gap.0 < second → second < gap.1 → ⊥

-- the pairs of neighbours in a list of marks that starts with `mark`
abbrev pub pairs_from : (mark : ℕ) → List ℕ → List (ℕ × ℕ)
pairs_from mark [] = []
pairs_from mark (next ∷ more) = (mark, next) ∷ pairs_from next more

-- the marks of an agenda after the start of its span: the seconds of its entries in order, and the span's end
abbrev pub marks : List (ℕ × ℕ) → (upto : ℕ) → List ℕ
marks entries upto = map (λ entry. entry.0) entries ++ upto ∷ []

-- the gaps of at least this many seconds where no job has a delay: the neighbouring marks that are so far apart
abbrev pub nominal_gaps : (least : ℕ) → Planned → List (ℕ × ℕ)
nominal_gaps least made =
    filter (λ pair. nat_le least (pair.1 - pair.0)) (pairs_from made.span.since (marks made.entries made.span.upto))

-- without delays, the gaps of an agenda are its neighbouring marks that are far enough apart
abbrev pub NominalGapsAreOfMarks : Type 0
NominalGapsAreOfMarks = (jobs : List JobParts) (span : Bounds) (least : ℕ) → 1 ≤ least
    → gaps least (planned (rules_of jobs) span) (map nominal jobs) ≡ nominal_gaps least (planned (rules_of jobs) span)
