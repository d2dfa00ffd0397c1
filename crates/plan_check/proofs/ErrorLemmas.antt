-- Without a clock, the findings of a file are the errors among those with one: for `errors_need_no_clock`.
-- Warnings are no errors (`none_of_clean`), and nothing else depends on the clock.
use Rattle.std.proofs.Common.{◌≡◌, ℕ, ◌+◌, Bool, true, false, not, ◌&&◌, cond, List, [], ◌∷◌, ◌++◌, Option, Some, None, is_some, option_map, Ok, Err, refl, ap, sym, ◌∙◌, true≢false}
use Rattle.std.proofs.lemmas.List.Elements.{filter-append}
use Rattle.std.specs.List.{cons_option, enumerate_from}
use Rattle.std.specs.Prelude.{codes}
use Rattle.plan_clock.specs.declared.row.Change.{Change}
use Rattle.plan_match.specs.declared.event.Calendar.{Calendar}
use Rattle.plan_cron.specs.Lines.{first_beyond}
use Rattle.plan_rules.specs.declared.crontabs.Kind.{Kind}
use Rattle.plan_rules.specs.declared.crontabs.Kind.TheVariants as whose
use Rattle.plan_rules.specs.declared.line_fault.LineCause.{LineCause}
use Rattle.plan_rules.specs.declared.line_fault.LineCause.TheVariants.{NoTimerSection}
use Rattle.plan_rules.specs.declared.source_kind.SourceKind.{SourceKind}
use Rattle.plan_rules.specs.declared.source_kind.SourceKind.TheVariants.{Crontab, System, CronD, Spool, Timer}
use Rattle.plan_texts.specs.Lines.{lines}
use Rattle.plan_rules.specs.Crontab.{line_reading}
use Rattle.plan_rules.specs.FileText.{text_reading}
use Rattle.plan_rules.specs.Job.{JobParts}
use Rattle.plan_rules.specs.LineFaults.{LineReading, TextReading}
use Rattle.plan_rules.specs.Timer.{has_timer, is_timer_name, timer_setting}
use Rattle.plan_rules.specs.TimerOptions.{Setting}
use Rattle.plan_rules.specs.TimerEntries.{LineStep, Idle, Empties, Has, Names, TimerState, line_in, no_lines, state_after, timer_lines}
use Rattle.plan_check.specs.declared.context.TimerContext.{TimerContext}
use Rattle.plan_check.specs.declared.finding.Finding.{Finding}
use Rattle.plan_check.specs.declared.finding.Warning.TheVariants.{ZoneSetting}
use Rattle.plan_check.specs.declared.finding.FindingKind.TheVariants.{Rejected, SameName, Full, Warned}
use Rattle.plan_check.specs.CronWarnings.{end_warnings, is_first, place_warnings}
use Rattle.plan_check.specs.Crontabs.{after_crontab, after_line, after_lines, crontab_findings, entry_findings, line_findings, lines_findings, reading_findings}
use Rattle.plan_check.specs.Files.{File, after_file, after_text, file_cause, file_findings, in_file, name_error, name_findings, text_findings}
use Rattle.plan_check.specs.Finding.{errors_of, finding_at, found_if, is_clean, is_warning, rejected_at}
use Rattle.plan_check.specs.Known.{KnownJobs, after_job, after_other, has_room, is_taken, job_findings, name_quote, without_warnings}
use Rattle.plan_check.specs.Settings.{value_of}
use Rattle.plan_check.specs.Timers as timers
use Rattle.plan_check.specs.Timers.{after_timer, event_warnings, read_findings, right_job, setting_findings, step_findings, timer_findings}
use Rattle.plan_check.specs.TimerWarnings.{timer_warnings}
use Rattle.plan_check.specs.Warnings.{setting_warnings, warnings_by}
use Rattle.plan_check.proofs.CleanLemmas.{end_clean, event_warnings_clean, line_clean, place_clean, setting_clean, warnings_clean, whole_clean}

-- ---- findings

errors_append : (xs ys : List Finding) → errors_of (xs ++ ys) ≡ errors_of xs ++ errors_of ys
errors_append xs ys = filter-append (λ finding. not (is_warning finding.kind)) xs ys

-- if nothing is rejected, there is no error
none_before :
    (warns : Bool) (finding : Finding) (more : List Finding) → (warns && is_clean more) ≡ true →
    (is_clean more ≡ true → errors_of more ≡ []) → cond (not warns) (finding ∷ errors_of more) (errors_of more) ≡ []
none_before true finding more clean later = later clean
none_before false finding more clean later = absurd (true≢false (sym clean))

none_of_clean : (found : List Finding) → is_clean found ≡ true → errors_of found ≡ []
none_of_clean [] clean = refl
none_of_clean (finding ∷ more) clean =
    none_before (is_warning finding.kind) finding more clean (none_of_clean more)

-- what is wrong with a name is an error
error_named :
    (m a b c : Bool) (line : ℕ) (name : List ℕ) →
    let found = cons_option (option_map (λ kind. finding_at line kind (name_quote name kind))
    (cond (not m) None (cond a (Some SameName) (cond b None (cond c None (Some Full)))))) [] in
    errors_of found ≡ found
error_named false a b c line name = refl
error_named true true b c line name = refl
error_named true false true c line name = refl
error_named true false false true line name = refl
error_named true false false false line name = refl

error_of_name :
    (known : KnownJobs) (line : ℕ) (name : List ℕ) → errors_of (job_findings known line name) ≡ job_findings known line name
error_of_name known line name = error_named known.makes_jobs (is_taken name known) (has_room known) known.told line name

-- ---- what is known

after_by :
    (m a b : Bool) (known added told : KnownJobs) →
    cond (not m) (without_warnings known) (cond a (without_warnings known) (cond b (without_warnings added) (without_warnings told)))
    ≡ without_warnings (cond (not m) known (cond a known (cond b added told)))
after_by false a b known added told = refl
after_by true true b known added told = refl
after_by true false true known added told = refl
after_by true false false known added told = refl

job_without : (known : KnownJobs) (job : JobParts) → after_job (without_warnings known) job ≡ without_warnings (after_job known job)
job_without known job =
    after_by known.makes_jobs (is_taken job.name known) (has_room known) known
    (record known { jobs = known.jobs ++ job ∷ [] }) (record known { told = true })

other_without :
    (known : KnownJobs) (name : List ℕ) → after_other (without_warnings known) name ≡ without_warnings (after_other known name)
other_without known name =
    after_by known.makes_jobs (is_taken name known) (has_room known) known
    (record known { others = known.others ++ name ∷ [] }) (record known { told = true })

-- ---- a crontab

-- what comes after warnings
errors_after :
    (warned found : List Finding) → is_clean warned ≡ true → errors_of found ≡ errors_of (warned ++ found)
errors_after warned found clean =
    (λ i. sym (none_of_clean warned clean) i ++ errors_of found) ∙ sym (errors_append warned found)

entry_errors :
    (known : KnownJobs) (kind : Kind) (line : ℕ) (text : List ℕ) (job : JobParts) →
    entry_findings (without_warnings known) kind line text (Ok job) ≡ errors_of (entry_findings known kind line text (Ok job))
entry_errors known kind line text job =
    sym (errors_append (job_findings known line job.name) (warnings_by known.clock kind line text job)
    ∙ (λ i. error_of_name known line job.name i ++ none_of_clean (warnings_by known.clock kind line text job)
    (warnings_clean known.clock kind line text job) i))

reading_errors :
    (known : KnownJobs) (kind : Kind) (line : ℕ) (text : List ℕ) (read : LineReading (Option JobParts)) →
    reading_findings (without_warnings known) kind line text read ≡ errors_of (reading_findings known kind line text read)
reading_errors known kind line text (Ok None) =
    sym (none_of_clean (setting_warnings known.clock line text) (line_clean known.clock line text))
reading_errors known kind line text (Ok (Some job)) = entry_errors known kind line text job
reading_errors known kind line text (Err cause) = refl

line_errors :
    (known : KnownJobs) (kind : Kind) (is_beyond : Bool) (line : ℕ) (text : List ℕ) (read : LineReading (Option JobParts)) →
    line_findings (without_warnings known) kind is_beyond line text read ≡ errors_of (line_findings known kind is_beyond line text read)
line_errors known kind is_beyond line text read =
    reading_errors known kind line text read
    ∙ errors_after (place_warnings known.clock is_beyond line text) (reading_findings known kind line text read)
    (place_clean known.clock is_beyond line text)

pub line_without :
    (known : KnownJobs) (read : LineReading (Option JobParts)) →
    after_line (without_warnings known) read ≡ without_warnings (after_line known read)
line_without known (Ok None) = refl
line_without known (Ok (Some job)) = job_without known job
line_without known (Err cause) = refl

lines_errors :
    (known : KnownJobs) (label : List ℕ) (kind : Kind) (beyond : Option ℕ) (lines : List (ℕ × List ℕ)) →
    lines_findings (without_warnings known) label kind beyond lines ≡ errors_of (lines_findings known label kind beyond lines)
lines_errors known label kind beyond [] = refl
lines_errors known label kind beyond (line ∷ more) =
    let read = line_reading label kind (line.0 + 1) line.1 in
    let first = line_findings known kind (is_first beyond (line.0 + 1)) (line.0 + 1) line.1 read in
    (λ i. line_errors known kind (is_first beyond (line.0 + 1)) (line.0 + 1) line.1 read i
    ++ lines_findings (line_without known read i) label kind beyond more)
    ∙ ap (λ later. errors_of first ++ later) (lines_errors (after_line known read) label kind beyond more)
    ∙ sym (errors_append first (lines_findings (after_line known read) label kind beyond more))

lines_without :
    (known : KnownJobs) (label : List ℕ) (kind : Kind) (lines : List (ℕ × List ℕ)) →
    after_lines (without_warnings known) label kind lines ≡ without_warnings (after_lines known label kind lines)
lines_without known label kind [] = refl
lines_without known label kind (line ∷ more) =
    let read = line_reading label kind (line.0 + 1) line.1 in
    ap (λ (next : KnownJobs). after_lines next label kind more) (line_without known read)
    ∙ lines_without (after_line known read) label kind more

crontab_errors :
    (known : KnownJobs) (label : List ℕ) (kind : Kind) (text : TextReading (List ℕ)) →
    crontab_findings (without_warnings known) label kind text ≡ errors_of (crontab_findings known label kind text)
crontab_errors known label kind (Ok text) =
    let found = lines_findings known label kind (first_beyond (lines text)) (enumerate_from 0 (lines text)) in
    (λ i. lines_errors known label kind (first_beyond (lines text)) (enumerate_from 0 (lines text)) i
    ++ sym (none_of_clean (end_warnings known.clock text) (end_clean known.clock text)) i)
    ∙ sym (errors_append found (end_warnings known.clock text))
crontab_errors known label kind (Err fault) = refl

crontab_without :
    (known : KnownJobs) (label : List ℕ) (kind : Kind) (text : TextReading (List ℕ)) →
    after_crontab (without_warnings known) label kind text ≡ without_warnings (after_crontab known label kind text)
crontab_without known label kind (Ok text) = lines_without known label kind (enumerate_from 0 (lines text))
crontab_without known label kind (Err fault) = refl

-- ---- a timer

read_errors :
    (clock : Option (List Change)) (line : ℕ) (text : List ℕ) (read : LineReading Calendar) →
    read_findings None line text read ≡ errors_of (read_findings clock line text read)
read_errors clock line text (Ok event) =
    sym (none_of_clean (event_warnings clock line text event) (event_warnings_clean clock line text event))
read_errors clock line text (Err cause) = refl

step_errors :
    (clock : Option (List Change)) (setting : Option Setting) (step : LineStep) →
    step_findings None setting step ≡ errors_of (step_findings clock setting step)
step_errors clock setting (Has entry) = read_errors clock entry.line (value_of setting) entry.read
step_errors clock setting Idle = refl
step_errors clock setting Empties = refl
step_errors clock setting (Names unit) = refl

key_errors :
    (clock : Option (List Change)) (line : ℕ) (setting : Option Setting) →
    setting_findings None line setting ≡ errors_of (setting_findings clock line setting)
key_errors clock line None = refl
key_errors clock line (Some setting) =
    sym (none_of_clean (setting_findings clock line (Some setting)) (setting_clean clock line (Some setting)))

timer_line_errors :
    (clock : Option (List Change)) (state : TimerState) (line : ℕ × List ℕ) →
    timers.line_findings None state line ≡ errors_of (timers.line_findings clock state line)
timer_line_errors clock state line =
    let setting = timer_setting state.inside line.1 in
    let step = line_in state line in
    (λ i. step_errors clock setting step i ++ key_errors clock line.0 setting i)
    ∙ sym (errors_append (step_findings clock setting step) (setting_findings clock line.0 setting))

timer_lines_errors :
    (clock : Option (List Change)) (state : TimerState) (lines : List (ℕ × List ℕ)) →
    timers.lines_findings None state lines ≡ errors_of (timers.lines_findings clock state lines)
timer_lines_errors clock state [] = refl
timer_lines_errors clock state (line ∷ more) =
    let next = state_after state line.1 in
    (λ i. timer_line_errors clock state line i ++ timer_lines_errors clock next more i)
    ∙ sym (errors_append (timers.line_findings clock state line) (timers.lines_findings clock next more))

missing_errors :
    (is_so : Bool) → found_if is_so 0 (Rejected NoTimerSection) None ≡ errors_of (found_if is_so 0 (Rejected NoTimerSection) None)
missing_errors true = refl
missing_errors false = refl

timer_errors :
    (context : TimerContext) (known : KnownJobs) (name bytes : List ℕ) (text : TextReading (List (ℕ × List ℕ))) →
    timer_findings context (without_warnings known) name bytes text ≡ errors_of (timer_findings context known name bytes text)
timer_errors context known name bytes (Err fault) = ap (λ found. rejected_at fault.line fault.cause ∷ found) (sym (error_of_name known 0 name))
timer_errors context known name bytes (Ok lines) =
    let missing = found_if (not (has_timer lines)) 0 (Rejected NoTimerSection) None in
    let named = job_findings known 0 name in
    let warned = timer_warnings known.clock context name bytes lines in
    let later = timers.lines_findings known.clock (no_lines context.zones) lines in
    (λ i. missing_errors (not (has_timer lines)) i ++ (sym (error_of_name known 0 name) i
    ++ (sym (none_of_clean warned (whole_clean known.clock context name bytes lines)) i ++ timer_lines_errors known.clock (no_lines context.zones) lines i)))
    ∙ sym (errors_append missing (named ++ (warned ++ later))
    ∙ ap (λ found. errors_of missing ++ found) (errors_append named (warned ++ later)
    ∙ ap (λ found. errors_of named ++ found) (errors_append warned later)))

timer_by :
    (made : Bool) (job other : KnownJobs) →
    cond made (without_warnings job) (without_warnings other) ≡ without_warnings (cond made job other)
timer_by true job other = refl
timer_by false job other = refl

timer_without :
    (context : TimerContext) (known : KnownJobs) (name : List ℕ) (text : TextReading (List (ℕ × List ℕ))) →
    after_timer context (without_warnings known) name text ≡ without_warnings (after_timer context known name text)
timer_without context known name (Err fault) = other_without known name
timer_without context known name (Ok lines) =
    let made = is_timer_name name && has_timer lines in
    (λ i. cond made (job_without known (right_job context name lines) i) (other_without known name i))
    ∙ timer_by made (after_job known (right_job context name lines)) (after_other known name)

-- ---- a file

text_errors :
    (context : TimerContext) (known : KnownJobs) (kind : SourceKind) (name bytes : List ℕ) →
    text_findings context (without_warnings known) kind name bytes ≡ errors_of (text_findings context known kind name bytes)
text_errors context known Crontab name bytes = crontab_errors known (codes "cron") whose.User (text_reading bytes)
text_errors context known System name bytes = crontab_errors known (codes "system") whose.System (text_reading bytes)
text_errors context known CronD name bytes = crontab_errors known name whose.System (text_reading bytes)
text_errors context known Spool name bytes = crontab_errors known name whose.User (text_reading bytes)
text_errors context known Timer name bytes = timer_errors context known name bytes (timer_lines bytes)

text_without :
    (context : TimerContext) (known : KnownJobs) (kind : SourceKind) (name bytes : List ℕ) →
    after_text context (without_warnings known) kind name bytes ≡ without_warnings (after_text context known kind name bytes)
text_without context known Crontab name bytes = crontab_without known (codes "cron") whose.User (text_reading bytes)
text_without context known System name bytes = crontab_without known (codes "system") whose.System (text_reading bytes)
text_without context known CronD name bytes = crontab_without known name whose.System (text_reading bytes)
text_without context known Spool name bytes = crontab_without known name whose.User (text_reading bytes)
text_without context known Timer name bytes = timer_without context known name (timer_lines bytes)

name_errors :
    (name : List ℕ) (cause : Option LineCause) →
    cons_option (option_map (name_error name) cause) [] ≡ errors_of (cons_option (option_map (name_error name) cause) [])
name_errors name None = refl
name_errors name (Some cause) = refl

pub file_errors :
    (context : TimerContext) (known : KnownJobs) (file : File) → file_findings context (without_warnings known) file
    ≡ errors_of (file_findings context known file)
file_errors context known file =
    let inside = in_file known file.kind file.name in
    (λ i. name_errors file.name (file_cause file.kind file.name) i ++ text_errors context inside file.kind file.name file.bytes i)
    ∙ sym (errors_append (name_findings file.kind file.name) (text_findings context inside file.kind file.name file.bytes))

pub file_without :
    (context : TimerContext) (known : KnownJobs) (file : File) → after_file context (without_warnings known) file
    ≡ without_warnings (after_file context known file)
file_without context known file = text_without context (in_file known file.kind file.name) file.kind file.name file.bytes
