-- Sources that are read one after another: for the loops of `jobs_of_sources`, and of the findings of all sources.
-- The rest of the list starts with the next source (`sources_left`), so its jobs, its error or its findings are
-- those of the definition there.
use Rattle.std.proofs.Common.{◌≡◌, ℕ, ◌+◌, ◌<◌, List, [], ◌∷◌, ◌++◌, length, get_or, drop, map, Result, Ok, Err, refl, ap, sym, append_assoc, ◌∙◌}
use Rattle.std.proofs.lemmas.List.{drop_more}
use Rattle.plan_texts.specs.Steps.{◌>>=◌}
use Rattle.plan_check.specs.declared.TimerContext.{TimerContext}
use Rattle.plan_rules.specs.Job.{JobParts}
use Rattle.plan_check.specs.declared.deciding.FileFault.{FileFault}
use Rattle.plan_check.specs.Deciding.{known_jobs, known_with, strictly, with_reading}
use Rattle.plan_check.specs.Files.{File, after_file, file_findings, file_reading}
use Rattle.plan_check.specs.Known.{KnownJobs}
use Rattle.agenda_sources.specs.declared.fault.SourceFault.{SourceFault}
use Rattle.agenda_sources.specs.declared.findings.Found.{Found}
use Rattle.agenda_sources.specs.declared.sources.Source.{Source}
use Rattle.agenda_sources.specs.Faults.{SourceReading, in_source}
use Rattle.agenda_sources.specs.Findings.{after_sources, found_at, found_from, source_file}
use Rattle.agenda_sources.specs.Sources.{sources_from, sources_reading}

-- what is known after sources, or the error that decides in the first that has an error
abbrev pub strictly_from : TimerContext → ℕ → KnownJobs → List Source → SourceReading KnownJobs
strictly_from context place known [] = Ok known
strictly_from context place known (source ∷ more) =
    in_source place (strictly context known (source_file source)) >>= λ next. strictly_from context (place + 1) next more

-- the rest, from a source on
abbrev pub left : TimerContext → List Source → ℕ → KnownJobs → SourceReading KnownJobs
left context sources index known = strictly_from context index known (drop index sources)

-- the rest of the sources, from a source on
sources_left :
    (sources : List Source) (index : ℕ) (source : Source) → index < length sources → source ≡ get_or sources index source →
    drop index sources ≡ source ∷ drop (index + 1) sources
sources_left sources index source within is =
    drop_more sources index source within ∙ ap (λ (s : Source). s ∷ drop (index + 1) sources) (sym is)

next_source :
    (context : TimerContext) (sources : List Source) (index : ℕ) (source : Source) (known : KnownJobs) → index < length sources →
    source ≡ get_or sources index source →
    left context sources index known
    ≡ (in_source index (strictly context known (source_file source)) >>= λ next. left context sources (index + 1) next)
next_source context sources index source known within is =
    rw (sources_left sources index source within is) refl

-- the source was read
pub read_on :
    (context : TimerContext) (sources : List Source) (index : ℕ) (source : Source) (known next : KnownJobs)
    (whole : SourceReading KnownJobs) →
    index < length sources → source ≡ get_or sources index source → left context sources index known ≡ whole →
    in_source index (strictly context known (source_file source)) ≡ Ok next → left context sources (index + 1) next ≡ whole
read_on context sources index source known next whole within is so_far read =
    sym (ap (λ (r : SourceReading KnownJobs). r >>= λ next. left context sources (index + 1) next) read) ∙
    sym (next_source context sources index source known within is) ∙ so_far

-- the source has an error
pub read_fault :
    (context : TimerContext) (sources : List Source) (index : ℕ) (source : Source) (known : KnownJobs) (fault : SourceFault)
    (whole : SourceReading KnownJobs) →
    index < length sources → source ≡ get_or sources index source → left context sources index known ≡ whole →
    in_source index (strictly context known (source_file source)) ≡ Err fault → whole ≡ Err fault
read_fault context sources index source known fault whole within is so_far read =
    sym so_far ∙ next_source context sources index source known within is ∙
    ap (λ (r : SourceReading KnownJobs). r >>= λ next. left context sources (index + 1) next) read

-- ---- the jobs of sources

-- the law of plan_check
abbrev pub FileLaw : Type 0
FileLaw = (context : TimerContext) (jobs : List JobParts) (file : File) →
    strictly context (known_jobs jobs) file ≡ known_with jobs (file_reading context file.kind file.name file.bytes)

known_then :
    (place : ℕ) (made : Result (List JobParts) FileFault) (known : KnownJobs → SourceReading KnownJobs)
    (jobs : List JobParts → SourceReading (List JobParts)) →
    ((next : List JobParts) → (known (known_jobs next) >>= λ last. Ok last.jobs) ≡ jobs next) →
    ((in_source place (made >>= λ next. Ok (known_jobs next)) >>= known) >>= λ last. Ok last.jobs) ≡ (in_source place made >>= jobs)
known_then place (Ok next) known jobs later = later next
known_then place (Err fault) known jobs later = refl

-- the jobs that are known after sources are those of the sources
pub jobs_known :
    FileLaw → (context : TimerContext) (place : ℕ) (jobs : List JobParts) (sources : List Source) →
    (strictly_from context place (known_jobs jobs) sources >>= λ last. Ok last.jobs) ≡ sources_from context place jobs sources
jobs_known law context place jobs [] = refl
jobs_known law context place jobs (source ∷ more) =
    let file = source_file source in
    ap (λ (r : Result KnownJobs FileFault).
    (in_source place r >>= λ next. strictly_from context (place + 1) next more) >>= λ last. Ok last.jobs) (law context jobs file)
    ∙ known_then place (with_reading jobs (file_reading context file.kind file.name file.bytes))
    (λ next. strictly_from context (place + 1) next more) (λ next. sources_from context (place + 1) next more)
    (λ next. jobs_known law context (place + 1) next more)

-- after the last source, and after one with an error
pub all_read :
    FileLaw → (context : TimerContext) (sources : List Source) (read : SourceReading KnownJobs) →
    strictly_from context 0 (known_jobs []) sources ≡ read → sources_reading context sources ≡ (read >>= λ last. Ok last.jobs)
all_read law context sources read is =
    sym (jobs_known law context 0 [] sources) ∙ ap (λ (r : SourceReading KnownJobs). r >>= λ last. Ok last.jobs) is

-- ---- findings

-- the findings of the source were added
pub found_on :
    (context : TimerContext) (sources : List Source) (index : ℕ) (source : Source) (known next : KnownJobs)
    (before after whole : List Found) →
    index < length sources → source ≡ get_or sources index source →
    before ++ found_from context index known (drop index sources) ≡ whole →
    after ≡ before ++ map (found_at index) (file_findings context known (source_file source)) →
    next ≡ after_file context known (source_file source) →
    after ++ found_from context (index + 1) next (drop (index + 1) sources) ≡ whole
found_on context sources index source known next before after whole within is so_far added kept =
    let more = drop (index + 1) sources in
    let here = map (found_at index) (file_findings context known (source_file source)) in
    (λ i. added i ++ found_from context (index + 1) (kept i) more)
    ∙ append_assoc before here (found_from context (index + 1) (after_file context known (source_file source)) more)
    ∙ sym (ap (λ left. before ++ found_from context index known left) (sources_left sources index source within is))
    ∙ so_far

-- what the source leaves is known
pub known_on :
    (context : TimerContext) (sources : List Source) (index : ℕ) (source : Source) (known next whole : KnownJobs) →
    index < length sources → source ≡ get_or sources index source →
    after_sources context known (drop index sources) ≡ whole → next ≡ after_file context known (source_file source) →
    after_sources context next (drop (index + 1) sources) ≡ whole
known_on context sources index source known next whole within is so_far kept =
    ap (λ known. after_sources context known (drop (index + 1) sources)) kept
    ∙ sym (ap (after_sources context known) (sources_left sources index source within is))
    ∙ so_far
