-- The jobs that are kept of sources, by what their files add: for `idle_jobs_are_excepted`.
--
-- A file adds jobs, some of them idle, or bars the name of a timer that makes no job (`Add`). `Fits` says that nothing is wrong with
-- the name of anything that is added. It holds if no finding says otherwise (`sources_fit`), and then all jobs are kept (`sources_run`).
use Rattle.std.proofs.Common.{◌≡◌, ℕ, suc, ◌+◌, ◌==◌, Bool, true, false, not, ◌||◌, ◌&&◌, nat_lt, cond, List, [], ◌∷◌, ◌++◌, length, map, position, Option, None, Some, is_none, is_some, option_map, Ok, Err, refl, ap, sym, subst, ◌∙◌, true≢false, append_assoc, append-nil, arith}
use Rattle.std.proofs.lemmas.Bool.{or_parts}
use Rattle.std.proofs.lemmas.Bool.Decides.{nat_tests}
use Rattle.std.proofs.lemmas.Grind.{common_steps}
use Rattle.std.proofs.lemmas.List.Folds.{list_any-append}
use Rattle.std.specs.List.{cons_option, enumerate_from, filter_map, flat_map, list_any}
use Rattle.std.specs.Prelude.{codes}
use Rattle.std.specs.Str.{bytes_eq}
use Rattle.plan_check.specs.declared.Finding.{Finding}
use Rattle.plan_check.specs.declared.FindingKind.TheVariants.{Rejected, SameName, Full}
use Rattle.plan_check.specs.declared.TimerContext.{TimerContext}
use Rattle.plan_check.specs.Crontabs.{after_crontab, after_line, after_lines, crontab_findings, line_findings, lines_findings}
use Rattle.plan_check.specs.CronWarnings.{end_warnings, is_first, place_warnings}
use Rattle.plan_check.specs.Files.{after_file, after_text, file_cause, file_findings, in_file, name_findings, text_findings}
use Rattle.plan_check.specs.Finding.{finding_at, found_if}
use Rattle.plan_check.specs.Known.{KnownJobs, after_job, after_other, has_room, is_taken, job_findings, name_quote, with_jobs}
use Rattle.plan_check.specs.TimerWarnings.{timer_warnings}
use Rattle.plan_check.specs.Timers as timers
use Rattle.plan_check.specs.Timers.{after_timer, right_job, timer_findings}
use Rattle.plan_check.specs.Warnings.{warnings_by}
use Rattle.plan_cron.specs.Lines.{first_beyond}
use Rattle.plan_rules.specs.declared.Entry.{Entry}
use Rattle.plan_rules.specs.declared.Kind.{Kind}
use Rattle.plan_rules.specs.declared.Kind.TheVariants as whose
use Rattle.plan_rules.specs.declared.LineCause.TheVariants.{NoTimerSection}
use Rattle.plan_rules.specs.declared.SourceKind.{SourceKind}
use Rattle.plan_rules.specs.declared.SourceKind.TheVariants.{Crontab, System, CronD, Spool, Timer}
use Rattle.plan_rules.specs.Crontab.{entries_of_lines, line_entry, line_reading}
use Rattle.plan_rules.specs.Entries.{entry_on}
use Rattle.plan_rules.specs.FileText.{text_reading}
use Rattle.plan_rules.specs.Job.{JobParts}
use Rattle.plan_rules.specs.Jobs.{is_named}
use Rattle.plan_rules.specs.Limits.{most_jobs}
use Rattle.plan_rules.specs.LineFaults.{LineReading, TextReading}
use Rattle.plan_rules.specs.Timer.{has_timer, is_timer_name}
use Rattle.plan_rules.specs.TimerEntries.{no_lines, timer_lines}
use Rattle.plan_runs.specs.declared.IdleJob.{IdleJob}
use Rattle.plan_runs.specs.Idle.{active_crontab}
use Rattle.plan_texts.specs.Lines.{lines}
use Rattle.plan_tree.specs.Tree.{Held}
use Rattle.agenda_sources.specs.Findings.{after_sources, found_at, found_from, source_file}
use Rattle.agenda_sources.specs.declared.Found.{Found}
use Rattle.agenda_sources.specs.declared.Source.{Source}
use Rattle.agenda_machine.specs.IdleJobs.{is_not_added}

-- ---- what is added

-- a job, and whether it is idle; or only a name that no later job may have
pub data Add : Type 0 where
  makes : (idle : Bool) → JobParts → Add
  bars : (name : List ℕ) → Add

abbrev pub jobs_of : List Add → List JobParts
jobs_of [] = []
jobs_of (makes idle job ∷ more) = job ∷ jobs_of more
jobs_of (bars name ∷ more) = jobs_of more

abbrev pub barred : List Add → List (List ℕ)
barred [] = []
barred (makes idle job ∷ more) = barred more
barred (bars name ∷ more) = name ∷ barred more

-- a name is taken by something before, and there is room for one more
abbrev pub is_used : (name : List ℕ) → (others : List (List ℕ)) → List JobParts → Bool
is_used name others jobs = list_any (bytes_eq name) others || list_any (is_named name) jobs

abbrev pub has_place : (others : List (List ℕ)) → List JobParts → Bool
has_place others jobs = nat_lt (length others + length jobs) most_jobs

-- nothing is wrong with the names of all this, after these names and jobs
abbrev pub Fits : (others : List (List ℕ)) → (jobs : List JobParts) → List Add → Type 0
Fits others jobs [] = Unit {0}
Fits others jobs (makes idle job ∷ more) =
    (is_used job.name others jobs ≡ false) × (has_place others jobs ≡ true) × Fits others (jobs ++ job ∷ []) more
Fits others jobs (bars name ∷ more) =
    (is_used name others jobs ≡ false) × (has_place others jobs ≡ true) × Fits (others ++ name ∷ []) jobs more

-- what is known once all this is added
abbrev pub plus : KnownJobs → List Add → KnownJobs
plus known adds = record known { jobs = known.jobs ++ jobs_of adds; others = known.others ++ barred adds }

abbrev FitsIn : KnownJobs → List Add → Type 0
FitsIn known adds = Fits known.others known.jobs adds

pub plus_none : (known : KnownJobs) → known ≡ plus known []
plus_none known = λ i. record known { jobs = sym (append-nil known.jobs) i; others = sym (append-nil known.others) i }

-- ---- one job more

found_by :
    (p : Bool) (n m : ℕ) (any : Bool) → is_some (cond (nat_lt n m) (Some n) None) ≡ any →
    is_some (cond (nat_lt (cond (not p) (1 + n) 0) (suc m)) (Some (cond (not p) (1 + n) 0)) None) ≡ (p || any)
found_by true n m any is = grind (arith, nat_tests, common_steps)
found_by false n m any is = grind (arith, nat_tests, common_steps, is)

found_there : (test : JobParts → Bool) (jobs : List JobParts) → is_some (position test jobs) ≡ list_any test jobs
found_there test [] = refl
found_there test (job ∷ more) = found_by (test job) _ (length more) (list_any test more) (found_there test more)

used_is : (name : List ℕ) (known : KnownJobs) → is_taken name known ≡ is_used name known.others known.jobs
used_is name known = ap (λ found. list_any (bytes_eq name) known.others || found) (found_there (is_named name) known.jobs)

one_added :
    (used place : Bool) (same added full : KnownJobs) → used ≡ false → place ≡ true →
    cond used same (cond place added full) ≡ added
one_added true place same added full free fits = absurd (true≢false free)
one_added false true same added full free fits = refl
one_added false false same added full free fits = absurd (true≢false (sym fits))

job_added :
    (known : KnownJobs) (job : JobParts) → is_used job.name known.others known.jobs ≡ false →
    has_place known.others known.jobs ≡ true →
    after_job (with_jobs known true) job ≡ with_jobs (record known { jobs = known.jobs ++ job ∷ [] }) true
job_added known job free place =
    one_added (is_taken job.name known) (has_room known) _ _ _ (used_is job.name known ∙ free) place

name_barred :
    (known : KnownJobs) (name : List ℕ) → is_used name known.others known.jobs ≡ false → has_place known.others known.jobs ≡ true →
    after_other (with_jobs known true) name ≡ with_jobs (record known { others = known.others ++ name ∷ [] }) true
name_barred known name free place =
    one_added (is_taken name known) (has_room known) _ _ _ (used_is name known ∙ free) place

-- ---- no finding about a name

abbrev pub has_unadded : List Finding → Bool
has_unadded found = list_any (λ finding. is_not_added finding.kind) found

name_free :
    (used place told : Bool) (line : ℕ) (name : List ℕ) → told ≡ false →
    has_unadded (cons_option (option_map (λ kind. finding_at line kind (name_quote name kind))
    (cond used (Some SameName) (cond place None (cond told None (Some Full))))) []) ≡ false →
    (used ≡ false) × (place ≡ true)
name_free true place told line name untold none = absurd (true≢false none)
name_free false true told line name untold none = (refl, refl)
name_free false false true line name untold none = absurd (true≢false untold)
name_free false false false line name untold none = absurd (true≢false none)

job_fits :
    (known : KnownJobs) (line : ℕ) (name : List ℕ) → known.told ≡ false →
    has_unadded (job_findings (with_jobs known true) line name) ≡ false →
    (is_used name known.others known.jobs ≡ false) × (has_place known.others known.jobs ≡ true)
job_fits known line name untold none =
    let is = name_free (is_taken name known) (has_room known) known.told line name untold none in
    (sym (used_is name known) ∙ is.0, is.1)

parts : (first more : List Finding) → has_unadded (first ++ more) ≡ false → (has_unadded first ≡ false) × (has_unadded more ≡ false)
parts first more none =
    or_parts (has_unadded first) (has_unadded more) (sym (list_any-append (λ finding. is_not_added finding.kind) first more) ∙ none)

-- ---- the lines of a crontab

abbrev pub add_of : (idle : Bool) → LineReading JobParts → Option Add
add_of idle (Ok job) = Some (makes idle job)
add_of idle (Err cause) = None

-- what entries add, if the lines with these numbers are idle
abbrev pub adds_in : (idle : ℕ → Bool) → List (Entry JobParts) → List Add
adds_in idle [] = []
adds_in idle (entry ∷ more) = cons_option (add_of (idle entry.line) entry.read) (adds_in idle more)

line_run :
    (known : KnownJobs) (idle : ℕ → Bool) (number : ℕ) (read : LineReading (Option JobParts)) (more : List (Entry JobParts))
    (G : KnownJobs → KnownJobs) →
    ((next : KnownJobs) → FitsIn next (adds_in idle more) → G (with_jobs next true) ≡ with_jobs (plus next (adds_in idle more)) true) →
    FitsIn known (adds_in idle (cons_option (entry_on number read) more)) →
    G (after_line (with_jobs known true) read)
    ≡ with_jobs (plus known (adds_in idle (cons_option (entry_on number read) more))) true
line_run known idle number (Ok None) more G later fits = later known fits
line_run known idle number (Ok (Some job)) more G later fits =
    ap G (job_added known job fits.0 fits.1)
    ∙ later (record known { jobs = known.jobs ++ job ∷ [] }) fits.2
    ∙ (λ i. with_jobs (record (plus known (adds_in idle more)) {
      jobs = append_assoc known.jobs (job ∷ []) (jobs_of (adds_in idle more)) i;
    }) true)
line_run known idle number (Err cause) more G later fits = later known fits

pub lines_run :
    (known : KnownJobs) (idle : ℕ → Bool) (label : List ℕ) (kind : Kind) (ls : List (ℕ × List ℕ)) →
    FitsIn known (adds_in idle (filter_map (line_entry label kind) ls)) →
    after_lines (with_jobs known true) label kind ls
    ≡ with_jobs (plus known (adds_in idle (filter_map (line_entry label kind) ls))) true
lines_run known idle label kind [] fits = ap (λ (k : KnownJobs). with_jobs k true) (plus_none known)
lines_run known idle label kind (line ∷ more) fits =
    line_run known idle (line.0 + 1) (line_reading label kind (line.0 + 1) line.1) (filter_map (line_entry label kind) more)
    (λ next. after_lines next label kind more) (λ next. lines_run next idle label kind more) fits

line_fits :
    (known : KnownJobs) (idle : ℕ → Bool) (kind : Kind) (is_beyond : Bool) (number : ℕ) (text : List ℕ)
    (read : LineReading (Option JobParts)) (more : List (Entry JobParts)) (F : KnownJobs → List Finding) →
    ((next : KnownJobs) → next.told ≡ false → has_unadded (F (with_jobs next true)) ≡ false → FitsIn next (adds_in idle more)) →
    known.told ≡ false →
    has_unadded (line_findings (with_jobs known true) kind is_beyond number text read ++ F (after_line (with_jobs known true) read)) ≡ false →
    FitsIn known (adds_in idle (cons_option (entry_on number read) more))
line_fits known idle kind is_beyond number text (Ok None) more F later untold none =
    let here = line_findings (with_jobs known true) kind is_beyond number text (Ok None) in
    later known untold (parts here (F (with_jobs known true)) none).1
line_fits known idle kind is_beyond number text (Ok (Some job)) more F later untold none =
    let first = place_warnings known.clock is_beyond number text in
    let named = job_findings (with_jobs known true) number job.name in
    let warned = warnings_by known.clock kind number text job in
    let both = parts (first ++ (named ++ warned)) (F (after_job (with_jobs known true) job)) none in
    let fits = job_fits known number job.name untold (parts named warned (parts first (named ++ warned) both.0).1).0 in
    let P : KnownJobs → Type 0 = λ next. has_unadded (F next) ≡ false in (
      fits.0,
      fits.1,
      later (record known { jobs = known.jobs ++ job ∷ [] }) untold
          (subst P (job_added known job fits.0 fits.1) both.1),
    )
line_fits known idle kind is_beyond number text (Err cause) more F later untold none =
    let here = line_findings (with_jobs known true) kind is_beyond number text (Err cause) in
    later known untold (parts here (F (with_jobs known true)) none).1

pub lines_fit :
    (known : KnownJobs) (idle : ℕ → Bool) (label : List ℕ) (kind : Kind) (beyond : Option ℕ) (ls : List (ℕ × List ℕ)) →
    known.told ≡ false → has_unadded (lines_findings (with_jobs known true) label kind beyond ls) ≡ false →
    FitsIn known (adds_in idle (filter_map (line_entry label kind) ls))
lines_fit known idle label kind beyond [] untold none = tt
lines_fit known idle label kind beyond (line ∷ more) untold none =
    line_fits known idle kind (is_first beyond (line.0 + 1)) (line.0 + 1) line.1 (line_reading label kind (line.0 + 1) line.1)
    (filter_map (line_entry label kind) more) (λ next. lines_findings next label kind beyond more)
    (λ next. lines_fit next idle label kind beyond more) untold none

-- a file with a bad name adds nothing
line_same : (known : KnownJobs) (read : LineReading (Option JobParts)) → after_line (with_jobs known false) read ≡ with_jobs known false
line_same known (Ok None) = refl
line_same known (Ok (Some job)) = refl
line_same known (Err cause) = refl

lines_same :
    (known : KnownJobs) (label : List ℕ) (kind : Kind) (ls : List (ℕ × List ℕ)) →
    after_lines (with_jobs known false) label kind ls ≡ with_jobs known false
lines_same known label kind [] = refl
lines_same known label kind (line ∷ more) =
    ap (λ (next : KnownJobs). after_lines next label kind more) (line_same known (line_reading label kind (line.0 + 1) line.1))
    ∙ lines_same known label kind more

-- ---- a crontab

abbrev pub is_in : List IdleJob → ℕ → Bool
is_in idle number = list_any (λ job. job.line == number) idle

abbrev pub crontab_adds : Held → (owner label : List ℕ) → Kind → (bytes : List ℕ) → TextReading (List ℕ) → List Add
crontab_adds held owner label kind bytes (Ok text) =
    adds_in (is_in (active_crontab held kind owner bytes (Ok text)).idle) (entries_of_lines label kind (lines text))
crontab_adds held owner label kind bytes (Err fault) = []

crontab_run :
    (known : KnownJobs) (held : Held) (owner label : List ℕ) (kind : Kind) (bytes : List ℕ) (read : TextReading (List ℕ)) →
    FitsIn known (crontab_adds held owner label kind bytes read) →
    after_crontab (with_jobs known true) label kind read ≡ with_jobs (plus known (crontab_adds held owner label kind bytes read)) true
unfolding entries_of_lines
crontab_run known held owner label kind bytes (Ok text) fits =
    lines_run known (is_in (active_crontab held kind owner bytes (Ok text)).idle) label kind (enumerate_from 0 (lines text)) fits
crontab_run known held owner label kind bytes (Err fault) fits = ap (λ (k : KnownJobs). with_jobs k true) (plus_none known)

crontab_fits :
    (known : KnownJobs) (held : Held) (owner label : List ℕ) (kind : Kind) (bytes : List ℕ) (read : TextReading (List ℕ)) →
    known.told ≡ false → has_unadded (crontab_findings (with_jobs known true) label kind read) ≡ false →
    FitsIn known (crontab_adds held owner label kind bytes read)
unfolding entries_of_lines
crontab_fits known held owner label kind bytes (Ok text) untold none =
    let beyond = first_beyond (lines text) in
    let ls = enumerate_from 0 (lines text) in
    lines_fit known (is_in (active_crontab held kind owner bytes (Ok text)).idle) label kind beyond ls untold
    (parts (lines_findings (with_jobs known true) label kind beyond ls) (end_warnings known.clock text) none).0
crontab_fits known held owner label kind bytes (Err fault) untold none = tt

crontab_same :
    (known : KnownJobs) (label : List ℕ) (kind : Kind) (read : TextReading (List ℕ)) →
    after_crontab (with_jobs known false) label kind read ≡ with_jobs known false
crontab_same known label kind (Ok text) = lines_same known label kind (enumerate_from 0 (lines text))
crontab_same known label kind (Err fault) = refl

-- ---- a timer

abbrev pub timer_adds : TimerContext → (name : List ℕ) → TextReading (List (ℕ × List ℕ)) → List Add
timer_adds context name (Ok ls) =
    cond (is_timer_name name && has_timer ls) (makes false (right_job context name ls) ∷ []) (bars name ∷ [])
timer_adds context name (Err fault) = bars name ∷ []

timer_by :
    (is : Bool) (known : KnownJobs) (name : List ℕ) (job : JobParts) → job.name ≡ name →
    FitsIn known (cond is (makes false job ∷ []) (bars name ∷ [])) →
    cond is (after_job (with_jobs known true) job) (after_other (with_jobs known true) name)
    ≡ with_jobs (plus known (cond is (makes false job ∷ []) (bars name ∷ []))) true
timer_by true known name job named fits =
    job_added known job fits.0 fits.1
    ∙ (λ i. with_jobs (record known { jobs = known.jobs ++ job ∷ []; others = sym (append-nil known.others) i }) true)
timer_by false known name job named fits =
    name_barred known name fits.0 fits.1
    ∙ (λ i. with_jobs (record known { jobs = sym (append-nil known.jobs) i; others = known.others ++ name ∷ [] }) true)

timer_run :
    (known : KnownJobs) (context : TimerContext) (name : List ℕ) (read : TextReading (List (ℕ × List ℕ))) →
    FitsIn known (timer_adds context name read) →
    after_timer context (with_jobs known true) name read ≡ with_jobs (plus known (timer_adds context name read)) true
timer_run known context name (Ok ls) fits =
    timer_by (is_timer_name name && has_timer ls) known name (right_job context name ls) refl fits
timer_run known context name (Err fault) fits = timer_by false known name (right_job context name []) refl fits

fits_by :
    (is : Bool) (known : KnownJobs) (name : List ℕ) (job : JobParts) → job.name ≡ name →
    (is_used name known.others known.jobs ≡ false) × (has_place known.others known.jobs ≡ true) →
    FitsIn known (cond is (makes false job ∷ []) (bars name ∷ []))
fits_by true known name job named fits = (ap (λ name. is_used name known.others known.jobs) named ∙ fits.0, fits.1, tt)
fits_by false known name job named fits = (fits.0, fits.1, tt)

timer_fits :
    (known : KnownJobs) (context : TimerContext) (name bytes : List ℕ) (read : TextReading (List (ℕ × List ℕ))) →
    known.told ≡ false → has_unadded (timer_findings context (with_jobs known true) name bytes read) ≡ false →
    FitsIn known (timer_adds context name read)
timer_fits known context name bytes (Ok ls) untold none =
    let whole = found_if (not (has_timer ls)) 0 (Rejected NoTimerSection) None in
    let named = job_findings (with_jobs known true) 0 name in
    let others = timer_warnings known.clock context name bytes ls ++ timers.lines_findings known.clock (no_lines context.zones) ls in
    fits_by (is_timer_name name && has_timer ls) known name (right_job context name ls) refl
    (job_fits known 0 name untold (parts named others (parts whole (named ++ others) none).1).0)
timer_fits known context name bytes (Err fault) untold none =
    fits_by false known name (right_job context name []) refl (job_fits known 0 name untold none)

same_by :
    (is : Bool) (known : KnownJobs) (name : List ℕ) (job : JobParts) →
    cond is (after_job (with_jobs known false) job) (after_other (with_jobs known false) name) ≡ with_jobs known false
same_by true known name job = refl
same_by false known name job = refl

timer_same :
    (known : KnownJobs) (context : TimerContext) (name : List ℕ) (read : TextReading (List (ℕ × List ℕ))) →
    after_timer context (with_jobs known false) name read ≡ with_jobs known false
timer_same known context name (Ok ls) = same_by (is_timer_name name && has_timer ls) known name (right_job context name ls)
timer_same known context name (Err fault) = refl

-- ---- a file

abbrev pub text_adds : TimerContext → Held → SourceKind → (name bytes : List ℕ) → List Add
text_adds context held Crontab name bytes = crontab_adds held name (codes "cron") whose.User bytes (text_reading bytes)
text_adds context held System name bytes = crontab_adds held name (codes "system") whose.System bytes (text_reading bytes)
text_adds context held CronD name bytes = crontab_adds held name name whose.System bytes (text_reading bytes)
text_adds context held Spool name bytes = crontab_adds held name name whose.User bytes (text_reading bytes)
text_adds context held Timer name bytes = timer_adds context name (timer_lines bytes)

pub text_run :
    (known : KnownJobs) (context : TimerContext) (held : Held) (kind : SourceKind) (name bytes : List ℕ) →
    FitsIn known (text_adds context held kind name bytes) →
    after_text context (with_jobs known true) kind name bytes ≡ with_jobs (plus known (text_adds context held kind name bytes)) true
text_run known context held Crontab name bytes fits = crontab_run known held name (codes "cron") whose.User bytes (text_reading bytes) fits
text_run known context held System name bytes fits = crontab_run known held name (codes "system") whose.System bytes (text_reading bytes) fits
text_run known context held CronD name bytes fits = crontab_run known held name name whose.System bytes (text_reading bytes) fits
text_run known context held Spool name bytes fits = crontab_run known held name name whose.User bytes (text_reading bytes) fits
text_run known context held Timer name bytes fits = timer_run known context name (timer_lines bytes) fits

text_fits :
    (known : KnownJobs) (context : TimerContext) (held : Held) (kind : SourceKind) (name bytes : List ℕ) → known.told ≡ false →
    has_unadded (text_findings context (with_jobs known true) kind name bytes) ≡ false →
    FitsIn known (text_adds context held kind name bytes)
text_fits known context held Crontab name bytes untold none =
    crontab_fits known held name (codes "cron") whose.User bytes (text_reading bytes) untold none
text_fits known context held System name bytes untold none =
    crontab_fits known held name (codes "system") whose.System bytes (text_reading bytes) untold none
text_fits known context held CronD name bytes untold none =
    crontab_fits known held name name whose.System bytes (text_reading bytes) untold none
text_fits known context held Spool name bytes untold none =
    crontab_fits known held name name whose.User bytes (text_reading bytes) untold none
text_fits known context held Timer name bytes untold none = timer_fits known context name bytes (timer_lines bytes) untold none

pub text_same :
    (known : KnownJobs) (context : TimerContext) (kind : SourceKind) (name bytes : List ℕ) →
    after_text context (with_jobs known false) kind name bytes ≡ with_jobs known false
text_same known context Crontab name bytes = crontab_same known (codes "cron") whose.User (text_reading bytes)
text_same known context System name bytes = crontab_same known (codes "system") whose.System (text_reading bytes)
text_same known context CronD name bytes = crontab_same known name whose.System (text_reading bytes)
text_same known context Spool name bytes = crontab_same known name whose.User (text_reading bytes)
text_same known context Timer name bytes = timer_same known context name (timer_lines bytes)

-- whether a source's file has a good name
abbrev pub is_good : Source → Bool
is_good source = is_none (file_cause source.kind source.name)

abbrev pub source_adds : TimerContext → Held → Source → List Add
source_adds context held source = cond (is_good source) (text_adds context held source.kind source.name source.bytes) []

file_by :
    (good : Bool) (known : KnownJobs) (context : TimerContext) (held : Held) (kind : SourceKind) (name bytes : List ℕ) →
    FitsIn known (cond good (text_adds context held kind name bytes) []) →
    after_text context (with_jobs known good) kind name bytes
    ≡ with_jobs (plus known (cond good (text_adds context held kind name bytes) [])) good
file_by true known context held kind name bytes fits = text_run known context held kind name bytes fits
file_by false known context held kind name bytes fits =
    text_same known context kind name bytes ∙ ap (λ (k : KnownJobs). with_jobs k false) (plus_none known)

pub file_run :
    (context : TimerContext) (held : Held) (known : KnownJobs) (source : Source) → FitsIn known (source_adds context held source) →
    after_file context known (source_file source) ≡ with_jobs (plus known (source_adds context held source)) (is_good source)
file_run context held known source fits =
    file_by (is_good source) known context held source.kind source.name source.bytes fits

file_fits_by :
    (good : Bool) (known : KnownJobs) (context : TimerContext) (held : Held) (kind : SourceKind) (name bytes : List ℕ) →
    known.told ≡ false → has_unadded (text_findings context (with_jobs known good) kind name bytes) ≡ false →
    FitsIn known (cond good (text_adds context held kind name bytes) [])
file_fits_by true known context held kind name bytes untold none = text_fits known context held kind name bytes untold none
file_fits_by false known context held kind name bytes untold none = tt

file_fits :
    (context : TimerContext) (held : Held) (known : KnownJobs) (source : Source) → known.told ≡ false →
    has_unadded (file_findings context known (source_file source)) ≡ false → FitsIn known (source_adds context held source)
file_fits context held known source untold none =
    let named = name_findings source.kind source.name in
    let found = text_findings context (in_file known source.kind source.name) source.kind source.name source.bytes in
    file_fits_by (is_good source) known context held source.kind source.name source.bytes untold (parts named found none).1

-- ---- one list after another

pub jobs_after : (first more : List Add) → jobs_of (first ++ more) ≡ jobs_of first ++ jobs_of more
jobs_after [] more = refl
jobs_after (makes idle job ∷ first) more = ap (λ jobs. job ∷ jobs) (jobs_after first more)
jobs_after (bars name ∷ first) more = jobs_after first more

fits_join :
    (others : List (List ℕ)) (jobs : List JobParts) (first more : List Add) → Fits others jobs first →
    Fits (others ++ barred first) (jobs ++ jobs_of first) more → Fits others jobs (first ++ more)
fits_join others jobs [] more here there =
    subst (λ names. Fits names jobs more) (append-nil others)
    (subst (λ (all : List JobParts). Fits (others ++ []) all more) (append-nil jobs) there)
fits_join others jobs (makes idle job ∷ first) more here there = (
  here.0,
  here.1,
  fits_join others (jobs ++ job ∷ []) first more here.2
      (subst (λ (all : List JobParts). Fits (others ++ barred first) all more) (sym (append_assoc jobs (job ∷ []) (jobs_of first))) there),
)
fits_join others jobs (bars name ∷ first) more here there = (
  here.0,
  here.1,
  fits_join (others ++ name ∷ []) jobs first more here.2
      (subst (λ names. Fits names (jobs ++ jobs_of first) more) (sym (append_assoc others (name ∷ []) (barred first))) there),
)

fits_first :
    (others : List (List ℕ)) (jobs : List JobParts) (first more : List Add) → Fits others jobs (first ++ more) → Fits others jobs first
fits_first others jobs [] more fits = tt
fits_first others jobs (makes idle job ∷ first) more fits =
    (fits.0, fits.1, fits_first others (jobs ++ job ∷ []) first more fits.2)
fits_first others jobs (bars name ∷ first) more fits =
    (fits.0, fits.1, fits_first (others ++ name ∷ []) jobs first more fits.2)

fits_more :
    (others : List (List ℕ)) (jobs : List JobParts) (first more : List Add) → Fits others jobs (first ++ more) →
    Fits (others ++ barred first) (jobs ++ jobs_of first) more
fits_more others jobs [] more fits =
    subst (λ names. Fits names (jobs ++ []) more) (sym (append-nil others))
    (subst (λ (all : List JobParts). Fits others all more) (sym (append-nil jobs)) fits)
fits_more others jobs (makes idle job ∷ first) more fits =
    subst (λ (all : List JobParts). Fits (others ++ barred first) all more) (append_assoc jobs (job ∷ []) (jobs_of first))
    (fits_more others (jobs ++ job ∷ []) first more fits.2)
fits_more others jobs (bars name ∷ first) more fits =
    subst (λ names. Fits names (jobs ++ jobs_of first) more) (append_assoc others (name ∷ []) (barred first))
    (fits_more (others ++ name ∷ []) jobs first more fits.2)

-- ---- all sources

-- the jobs that are kept of sources, each as it is changed by `f`, where what such a source adds is known
pub sources_run :
    (context : TimerContext) (f : Source → Source) (adds : Source → List Add) (good : Source → Bool) →
    ((known : KnownJobs) (source : Source) → FitsIn known (adds source) →
    after_file context known (source_file (f source)) ≡ with_jobs (plus known (adds source)) (good source)) →
    (known : KnownJobs) (sources : List Source) → FitsIn known (flat_map adds sources) →
    (after_sources context known (map f sources)).jobs ≡ known.jobs ++ jobs_of (flat_map adds sources)
sources_run context f adds good one known [] fits = sym (append-nil known.jobs)
sources_run context f adds good one known (source ∷ more) fits =
    let here = adds source in
    let rest = flat_map adds more in
    ap (λ (next : KnownJobs). (after_sources context next (map f more)).jobs)
    (one known source (fits_first known.others known.jobs here rest fits))
    ∙ sources_run context f adds good one (with_jobs (plus known here) (good source)) more
    (fits_more known.others known.jobs here rest fits)
    ∙ append_assoc known.jobs (jobs_of here) (jobs_of rest)
    ∙ ap (λ jobs. known.jobs ++ jobs) (sym (jobs_after here rest))

abbrev any_unadded : List Found → Bool
any_unadded found = list_any (λ one. is_not_added one.finding.kind) found

at_place : (place : ℕ) (found : List Finding) → any_unadded (map (found_at place) found) ≡ has_unadded found
at_place place [] = refl
at_place place (finding ∷ more) = ap (λ any. is_not_added finding.kind || any) (at_place place more)

pub sources_fit :
    (context : TimerContext) (held : Held) (place : ℕ) (known : KnownJobs) (sources : List Source) → known.told ≡ false →
    any_unadded (found_from context place known sources) ≡ false → FitsIn known (flat_map (source_adds context held) sources)
sources_fit context held place known [] untold none = tt
sources_fit context held place known (source ∷ more) untold none =
    let found = map (found_at place) (file_findings context known (source_file source)) in
    let rest = found_from context (place + 1) (after_file context known (source_file source)) more in
    let both = or_parts (any_unadded found) (any_unadded rest)
    (sym (list_any-append (λ (one : Found). is_not_added one.finding.kind) found rest) ∙ none) in
    let here = source_adds context held source in
    let fits = file_fits context held known source untold
    (sym (at_place place (file_findings context known (source_file source))) ∙ both.0) in
    let next = with_jobs (plus known here) (is_good source) in
    let P : KnownJobs → Type 0 = λ after. any_unadded (found_from context (place + 1) after more) ≡ false in
    fits_join known.others known.jobs here (flat_map (source_adds context held) more) fits
    (sources_fit context held (place + 1) next more untold (subst P (file_run context held known source fits) both.1))
