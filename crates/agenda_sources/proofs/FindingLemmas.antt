-- The findings of the sources without a clock are their errors (`errors_from`): for `kept_of_sources`. There is none exactly if
-- the sources make a list of jobs (`sources_agree`): for `findings_of_sources`, and for the law `without_errors_all_is_kept`.
use Rattle.std.proofs.Common.{◌≡◌, ℕ, ◌+◌, Bool, true, false, not, ◌&&◌, cond, List, [], ◌∷◌, ◌++◌, map, filter, Option, None, Some, option_map, Result, Ok, Err}
use Rattle.std.proofs.Common.{refl, ap, sym, ◌∙◌, subst, true≢false}
use Rattle.std.specs.Option.{option_or}
use Rattle.std.specs.Prelude.{is_ok}
use Rattle.std.proofs.lemmas.List.Elements.{filter-append}
use Rattle.plan_clock.specs.declared.row.Change.{Change}
use Rattle.plan_texts.specs.Steps.{◌>>=◌}
use Rattle.plan_check.specs.declared.TimerContext.{TimerContext}
use Rattle.plan_rules.specs.declared.line_fault.LineFault.{LineFault}
use Rattle.plan_rules.specs.Job.{JobParts}
use Rattle.plan_check.specs.declared.deciding.FileFault.{FileFault}
use Rattle.plan_check.specs.declared.deciding.FileFault.TheVariants.{Rejected}
use Rattle.plan_check.specs.declared.finding.Finding.{Finding}
use Rattle.plan_check.specs.Deciding.{deciding, first_early, known_jobs, late_fault, unless_fault, with_reading}
use Rattle.plan_check.specs.Files.{File, after_file, file_findings, file_reading}
use Rattle.plan_check.specs.Finding.{errors_of, is_warning}
use Rattle.plan_check.specs.Known.{KnownJobs, no_jobs, without_warnings}
use Rattle.agenda_sources.specs.declared.findings.Found.{Found}
use Rattle.agenda_sources.specs.declared.sources.Source.{Source}
use Rattle.agenda_sources.specs.declared.time_zones.TimeZones.{TimeZones}
use Rattle.agenda_sources.specs.Faults.{SourceReading, in_source}
use Rattle.agenda_sources.specs.Findings.{after_sources, found_at, found_from, is_all_clean, kept_jobs, source_file, sources_errors, sources_findings}
use Rattle.agenda_sources.specs.Sources.{jobs_reading, sources_from, sources_reading, zoned}
use Rattle.agenda_sources.proofs.FoldLemmas.{FileLaw}

-- ---- without a clock

-- the law of plan_check
abbrev ErrorLaw : Type 0
ErrorLaw = (context : TimerContext) (known : KnownJobs) (file : File) → file_findings context (without_warnings known) file
    ≡ errors_of (file_findings context known file)

abbrev KnownLaw : Type 0
KnownLaw = (context : TimerContext) (known : KnownJobs) (file : File) → after_file context (without_warnings known) file
    ≡ without_warnings (after_file context known file)

abbrev all_errors : List Found → List Found
all_errors found = filter (λ one. not (is_warning one.finding.kind)) found

one_errors :
    (is : Bool) (place : ℕ) (finding : Finding) (errors : List Finding) (found : List Found) →
    map (found_at place) errors ≡ found →
    map (found_at place) (cond is (finding ∷ errors) errors) ≡ cond is (found_at place finding ∷ found) found
one_errors true place finding errors found same = ap (λ more. found_at place finding ∷ more) same
one_errors false place finding errors found same = same

errors_at :
    (place : ℕ) (found : List Finding) → map (found_at place) (errors_of found) ≡ all_errors (map (found_at place) found)
errors_at place [] = refl
errors_at place (finding ∷ more) =
    one_errors (not (is_warning finding.kind)) place finding (errors_of more) (all_errors (map (found_at place) more))
    (errors_at place more)

pub errors_from :
    (context : TimerContext) → ErrorLaw → KnownLaw → (place : ℕ) (known : KnownJobs) (sources : List Source) →
    found_from context place (without_warnings known) sources ≡ all_errors (found_from context place known sources)
errors_from context errors known_law place known [] = refl
errors_from context errors known_law place known (source ∷ more) =
    let file = source_file source in
    let after = after_file context known file in
    (λ i. map (found_at place) (errors context known file i) ++ found_from context (place + 1) (known_law context known file i) more)
    ∙ (λ i. errors_at place (file_findings context known file) i ++ errors_from context errors known_law (place + 1) after more i)
    ∙ sym (filter-append (λ (one : Found). not (is_warning one.finding.kind))
    (map (found_at place) (file_findings context known file))
    (found_from context (place + 1) after more))

pub known_from :
    (context : TimerContext) → KnownLaw → (known : KnownJobs) (sources : List Source) →
    after_sources context (without_warnings known) sources ≡ without_warnings (after_sources context known sources)
known_from context law known [] = refl
known_from context law known (source ∷ more) =
    ap (λ (next : KnownJobs). after_sources context next more) (law context known (source_file source))
    ∙ known_from context law (after_file context known (source_file source)) more

-- ---- the jobs of sources without errors

abbrev is_empty : {A : Type 0} → List A → Bool
is_empty [] = true
is_empty (x ∷ xs) = false

-- if the sources make jobs, there are no findings, and these jobs are kept; else there are findings
abbrev Agrees : SourceReading (List JobParts) → List Found → KnownJobs → Type 0
Agrees (Ok jobs) found after = (found ≡ []) × (after ≡ known_jobs jobs)
Agrees (Err fault) found after = is_empty found ≡ false

never_ok :
    (early : Option LineFault) (late : FileFault) (after next : KnownJobs) →
    unless_fault (option_or (option_map Rejected early) (Some late)) after ≡ Ok next → ⊥
never_ok None late after next is = cc
never_ok (Some fault) late after next is = cc

source_agrees :
    (place : ℕ) (found : List Finding) (after : KnownJobs) (made : Result (List JobParts) FileFault)
    (more : List Source) (context : TimerContext) →
    unless_fault (deciding found) after ≡ (made >>= λ next. Ok (known_jobs next)) →
    ((next : List JobParts) → Agrees (sources_from context (place + 1) next more) (found_from context (place + 1) (known_jobs next) more)
    (after_sources context (known_jobs next) more)) →
    Agrees (in_source place made >>= λ next. sources_from context (place + 1) next more)
    (map (found_at place) found ++ found_from context (place + 1) after more) (after_sources context after more)
source_agrees place [] after (Ok next) more context is later =
    let same : after ≡ known_jobs next = cc in
    subst (λ (known : KnownJobs). Agrees (sources_from context (place + 1) next more) (found_from context (place + 1) known more)
    (after_sources context known more)) (sym same) (later next)
source_agrees place [] after (Err fault) more context is later = absurd cc
source_agrees place (finding ∷ found) after (Ok next) more context is later =
    absurd (never_ok (first_early (finding ∷ found)) (late_fault finding.line finding.kind finding.quote) after (known_jobs next) is)
source_agrees place (finding ∷ found) after (Err fault) more context is later = refl

sources_agree :
    FileLaw → (context : TimerContext) (place : ℕ) (jobs : List JobParts) (sources : List Source) →
    Agrees (sources_from context place jobs sources) (found_from context place (known_jobs jobs) sources)
    (after_sources context (known_jobs jobs) sources)
sources_agree law context place jobs [] = (refl, refl)
sources_agree law context place jobs (source ∷ more) =
    let file = source_file source in
    source_agrees place (file_findings context (known_jobs jobs) file) (after_file context (known_jobs jobs) file)
    (with_reading jobs (file_reading context file.kind file.name file.bytes)) more context (law context jobs file)
    (λ next. sources_agree law context (place + 1) next more)

-- ---- no error is found exactly if jobs are made

empty_by : {A : Type 0} (is : Bool) (x : A) (xs : List A) (clean : Bool) → clean ≡ is_empty xs →
    (is && clean) ≡ is_empty (cond (not is) (x ∷ xs) xs)
empty_by true x xs clean same = same
empty_by false x xs clean same = refl

clean_where_empty : (found : List Found) → is_all_clean found ≡ is_empty (all_errors found)
clean_where_empty [] = refl
clean_where_empty (one ∷ more) =
    empty_by (is_warning one.finding.kind) one (all_errors more) (is_all_clean more) (clean_where_empty more)

empty_where_ok :
    (made : SourceReading (List JobParts)) (found : List Found) (after : KnownJobs) → Agrees made found after →
    is_empty found ≡ is_ok made
empty_where_ok (Ok jobs) found after agrees = ap is_empty agrees.0
empty_where_ok (Err fault) found after agrees = agrees

pub clean_sources :
    FileLaw → ErrorLaw → KnownLaw → (zones : TimeZones) (sources : List Source) (found : List Found) →
    found ≡ sources_findings zones sources → is_all_clean found ≡ is_ok (sources_reading zones.timers sources)
clean_sources law errors known zones sources found is =
    ap is_all_clean is ∙ clean_where_empty (sources_findings zones sources)
    ∙ ap is_empty (sym (errors_from zones.timers errors known 0 (no_jobs (Some zones.clock)) sources))
    ∙ empty_where_ok (sources_reading zones.timers sources) _ _ (sources_agree law zones.timers 0 [] sources)

-- ---- the jobs that are kept

kept_by :
    (clock : List Change) (made : SourceReading (List JobParts)) (found : List Found) (after : KnownJobs) → Agrees made found after →
    found ≡ [] → (made >>= λ jobs. Ok (zoned clock jobs)) ≡ Ok (zoned clock after.jobs)
kept_by clock (Ok jobs) found after agrees none = ap (λ (known : KnownJobs). Ok (zoned clock known.jobs)) (sym agrees.1)
kept_by clock (Err fault) found after agrees none = absurd (true≢false (ap is_empty (sym none) ∙ agrees))

-- if there are no errors, all jobs are kept
pub all_kept :
    FileLaw → ErrorLaw → KnownLaw → (zones : TimeZones) (sources : List Source) → sources_errors zones sources ≡ [] →
    jobs_reading zones sources ≡ Ok (kept_jobs zones sources)
all_kept law errors known zones sources none =
    let state = no_jobs (Some zones.clock) in
    kept_by zones.clock (sources_reading zones.timers sources) (found_from zones.timers 0 (known_jobs []) sources)
    (after_sources zones.timers (known_jobs []) sources) (sources_agree law zones.timers 0 [] sources)
    (errors_from zones.timers errors known 0 state sources ∙ none)
    ∙ ap (λ (last : KnownJobs). Ok (zoned zones.clock last.jobs)) (known_from zones.timers known state sources)
