-- A file means its reading, with its jobs added in order: for `a_file_means_its_reading`.
-- Both sides go by the entries of the lines: rejected entries are the early errors (`early_lines`, `events_rejected`), and
-- each valid entry of a crontab is a job that is added or not (`job_means`).
use Rattle.std.proofs.Common.{append-nil, ◌≡◌, ℕ, zero, suc, ◌+◌, Bool, true, false, not, ◌&&◌, nat_lt, cond, List, [], ◌∷◌, ◌++◌, length, map, Option, Some, None, is_none, is_some, option_map, Result, Ok, Err, IfErr, refl, ap, sym, ◌∙◌, subst, arith}
use Rattle.std.specs.List.{cons_option, enumerate_from, filter_map}
use Rattle.std.specs.Option.{option_or}
use Rattle.std.specs.Prelude.{codes, unwrap_or}
use Rattle.std.specs.Str.{is_utf8}
use Rattle.plan_texts.specs.Lines.{is_too_large, lines}
use Rattle.plan_texts.specs.Steps.{◌>>=◌}
use Rattle.plan_texts.specs.WholeLines.{whole_lines, trimmed}
use Rattle.plan_match.specs.declared.event.Calendar.{Calendar}
use Rattle.plan_grammar.specs.Event.{event_reading}
use Rattle.plan_grammar.specs.EventZones.{Zones}
use Rattle.plan_grammar.specs.Readings.{Reading}
use Rattle.plan_grammar.specs.declared.fault.RuleCause.{RuleCause}
use Rattle.plan_grammar.specs.declared.fault.RuleCause.TheVariants as rule
use Rattle.plan_grammar.specs.declared.fault.RuleFault.{RuleFault}
use Rattle.plan_cron.specs.Hints.{hint}
use Rattle.plan_cron.specs.Lines.{first_beyond}
use Rattle.plan_rules.specs.declared.crontabs.Kind.{Kind}
use Rattle.plan_rules.specs.declared.crontabs.Kind.TheVariants as whose
use Rattle.plan_rules.specs.declared.entry.Entry.{Entry}
use Rattle.plan_rules.specs.declared.line_fault.LineCause.{LineCause}
use Rattle.plan_rules.specs.declared.line_fault.LineCause.TheVariants.{BadTabName, BadTimerName, NoTimerSection, NotUtf8, TooLarge, TooManyLines}
use Rattle.plan_rules.specs.declared.line_fault.LineFault.{LineFault}
use Rattle.plan_rules.specs.declared.source_kind.SourceKind.{SourceKind}
use Rattle.plan_rules.specs.declared.source_kind.SourceKind.TheVariants.{Crontab, System, CronD, Spool, Timer}
use Rattle.plan_rules.specs.Crontab.{crontab_reading, entries_of_lines, line_entry, line_reading}
use Rattle.plan_rules.specs.Entries.{entry_at, entry_on, faults_of, given, meant_by, fault_on, unless_faulty}
use Rattle.plan_rules.specs.FileText.{text_reading}
use Rattle.plan_rules.specs.Job.{JobParts}
use Rattle.plan_rules.specs.Jobs.{number_of}
use Rattle.plan_rules.specs.Limits.{most_events, most_jobs}
use Rattle.plan_rules.specs.LineFaults.{LineReading, TextReading, cause_by_cause, fault_on_line, in_line, on_line}
use Rattle.plan_rules.specs.SourceKind.{is_package_name, is_user_name}
use Rattle.plan_rules.specs.Timer.{Effect, Reset, Event, Starts, Nothing, effects_from, has_timer, is_timer_name, job_with, settings_from, timer_job, timer_setting}
use Rattle.plan_rules.specs.TimerOptions.{Setting, delay_seconds, options_of}
use Rattle.plan_rules.specs.declared.timer_options.TimerOptions.{TimerOptions}
use Rattle.plan_rules.specs.TimerEntries.{EventCount, effect_in, LineStep, Idle, Empties, Has, Names, TimerState, Draft, entries_from, entry_of, line_by, line_in, lines_draft, no_events, no_lines, state_after, timer_lines, timer_of_lines}
use Rattle.plan_check.specs.declared.context.TimerContext.{TimerContext}
use Rattle.plan_check.specs.declared.deciding.FileFault.{FileFault}
use Rattle.plan_check.specs.declared.deciding.FileFault.TheVariants as fault
use Rattle.plan_check.specs.declared.finding.Finding.{Finding}
use Rattle.plan_check.specs.declared.finding.FindingKind.TheVariants.{Rejected, SameName, Full}
use Rattle.plan_check.specs.Context.{delay_in, options_in}
use Rattle.plan_check.specs.CronWarnings.{is_first}
use Rattle.plan_check.specs.Crontabs.{after_crontab, after_line, after_lines, crontab_findings, field_quote, line_findings, lines_findings}
use Rattle.plan_check.specs.Deciding.{deciding, early_cause, early_fault, known_jobs, known_with, late_fault, strictly, unless_fault, with_each}
use Rattle.plan_check.specs.Finding.{error_at, finding_at, first_of, found_if}
use Rattle.plan_check.specs.Files.{File, after_text, alone, file_cause, file_reading, jobs_of_text, name_error, text_findings, unless_named}
use Rattle.plan_check.specs.Known.{KnownJobs, after_other, has_room, is_taken, name_quote, with_jobs, without_warnings}
use Rattle.plan_check.specs.Settings.{value_of}
use Rattle.plan_check.specs.Timers as timers
use Rattle.plan_check.specs.Timers.{after_timer, event_quote, right_job, setting_findings, step_findings, timer_findings}
use Rattle.plan_check.proofs.ErrorLemmas.{line_without}

-- what a strict reader makes of findings, if this is known after them
abbrev strict : List Finding → KnownJobs → Result KnownJobs FileFault
strict found after = unless_fault (deciding found) after

-- the early errors among findings
abbrev early_of : List Finding → List LineFault
early_of found = filter_map (λ finding. early_fault finding.line finding.kind) found

-- ---- no error of an event is that a section is missing

abbrev OfLine : LineCause → Type 0
OfLine NoTimerSection = ⊥
OfLine other = Unit {0}

early_line : (line : ℕ) (cause : LineCause) → OfLine cause → early_fault line (Rejected cause) ≡ Some (fault_on_line line cause)
early_line zero NoTimerSection of = absurd of
early_line zero other of = refl
early_line (suc line) cause of = refl

by_cause : (c : RuleCause) (fault : RuleFault) → OfLine (cause_by_cause c fault)
by_cause rule.NoMemory fault = tt
by_cause other fault = tt

of_rule : {A : Type 0} (read : Reading A) → IfErr (in_line read) OfLine
of_rule (Ok x) = tt
of_rule (Err fault) = by_cause fault.cause fault

-- ---- the early errors of a crontab are those of its entries

-- what is wrong with a name is no early error
early_named :
    (m a b c : Bool) (line : ℕ) (name : List ℕ) (found : List Finding) →
    early_of ((cons_option (option_map (λ kind. finding_at line kind (name_quote name kind))
    (cond (not m) None (cond a (Some SameName) (cond b None (cond c None (Some Full)))))) [] ++ []) ++ found) ≡ early_of found
early_named false a b c line name found = refl
early_named true true b c line name found = refl
early_named true false true c line name found = refl
early_named true false false true line name found = refl
early_named true false false false line name found = refl

early_next : (line : ℕ) (cause : LineCause) → early_cause (line + 1) cause ≡ Some (fault_on_line (line + 1) cause)
early_next line cause =
    let next : suc line ≡ line + 1 = omega arith in
    subst (λ line. early_cause line cause ≡ Some (fault_on_line line cause)) next refl

early_then :
    (known : KnownJobs) (kind : Kind) (is_beyond : Bool) (line : ℕ) (text : List ℕ) (read : LineReading (Option JobParts)) (found : List Finding)
    (more : List (Entry JobParts)) → early_of found ≡ faults_of more →
    early_of (line_findings (without_warnings known) kind is_beyond (line + 1) text read ++ found)
    ≡ faults_of (cons_option (entry_on (line + 1) read) more)
early_then known kind is_beyond line text (Ok None) found more later = later
early_then known kind is_beyond line text (Ok (Some job)) found more later =
    early_named known.makes_jobs (is_taken job.name known) (has_room known) known.told (line + 1) job.name found ∙ later
early_then known kind is_beyond line text (Err cause) found more later = λ i. cons_option (early_next line cause i) (later i)

early_lines :
    (known : KnownJobs) (label : List ℕ) (kind : Kind) (beyond : Option ℕ) (lines : List (ℕ × List ℕ)) →
    early_of (lines_findings (without_warnings known) label kind beyond lines) ≡ faults_of (filter_map (line_entry label kind) lines)
early_lines known label kind beyond [] = refl
early_lines known label kind beyond (line ∷ more) =
    let read = line_reading label kind (line.0 + 1) line.1 in
    early_then known kind (is_first beyond (line.0 + 1)) line.0 line.1 read
    (lines_findings (after_line (without_warnings known) read) label kind beyond more)
    (filter_map (line_entry label kind) more)
    (ap (λ (next : KnownJobs). early_of (lines_findings next label kind beyond more)) (line_without known read)
    ∙ early_lines (after_line known read) label kind beyond more)

-- ---- a crontab

-- what is known after a job that isn't added
abbrev unadded : List JobParts → (told : Bool) → KnownJobs
unadded jobs told = record { jobs = jobs; others = []; told = told; makes_jobs = true; clock = None }

-- by whether the job's name is taken, and whether there are fewer than 1,000 jobs: the finding about its name, and what is known
-- after it
abbrev named_findings : ℕ → (name : List ℕ) → (a b : Bool) → List Finding
named_findings line name a b =
    cons_option (option_map (λ kind. finding_at line kind (name_quote name kind))
    (cond a (Some SameName) (cond b None (cond false None (Some Full))))) []

abbrev named_after : (a b : Bool) → List JobParts → JobParts → KnownJobs
named_after a b jobs job =
    cond a (unadded jobs false) (cond b (known_jobs (jobs ++ job ∷ [])) (unadded jobs true))

-- an early error decides
early_decides :
    (found : List Finding) (after : KnownJobs) (rejected : LineFault) (others : List LineFault) → early_of found ≡ rejected ∷ others →
    strict found after ≡ Err (fault.Rejected rejected)
early_decides found after rejected others is =
    ap (λ early. unless_fault (option_or (option_map fault.Rejected (first_of early))
    (option_map (λ finding. late_fault finding.line finding.kind finding.quote) (first_of found))) after) is

-- a job, if a later line is rejected
job_before :
    (a b : Bool) (jobs : List JobParts) (number : ℕ) (job : JobParts) (rejected : LineFault) (others : List LineFault)
    (F : KnownJobs → List Finding) (G : KnownJobs → KnownJobs) →
    ((known : KnownJobs) → early_of (F (without_warnings known)) ≡ rejected ∷ others) →
    strict ((named_findings number job.name a b ++ []) ++ F (named_after a b jobs job)) (G (named_after a b jobs job))
    ≡ Err (fault.Rejected rejected)
job_before true b jobs number job rejected others F G early =
    early_decides (finding_at number SameName (Some job.name) ∷ F (unadded jobs false)) (G (unadded jobs false)) rejected others
    (early (unadded jobs false))
job_before false true jobs number job rejected others F G early =
    early_decides (F (known_jobs (jobs ++ job ∷ []))) (G (known_jobs (jobs ++ job ∷ []))) rejected others
    (early (known_jobs (jobs ++ job ∷ [])))
job_before false false jobs number job rejected others F G early =
    early_decides (finding_at number Full None ∷ F (unadded jobs true)) (G (unadded jobs true)) rejected others
    (early (unadded jobs true))

-- a job, if no later line is rejected
job_alone :
    (a b : Bool) (jobs : List JobParts) (number : ℕ) (job : JobParts) (more : List JobParts) (F : KnownJobs → List Finding)
    (G : KnownJobs → KnownJobs) →
    ((next : List JobParts) → strict (F (known_jobs next)) (G (known_jobs next)) ≡ known_with next (Ok more)) →
    ((known : KnownJobs) → early_of (F (without_warnings known)) ≡ []) →
    strict ((named_findings number job.name a b ++ []) ++ F (named_after a b jobs job)) (G (named_after a b jobs job))
    ≡ ((cond a (Err (fault.SameName job.name)) (cond b (Ok (jobs ++ job ∷ [])) (Err fault.Full)) >>= λ next. with_each next more)
    >>= λ next. Ok (known_jobs next))
job_alone true b jobs number job more F G later early =
    λ i. unless_fault (option_or (option_map fault.Rejected (first_of (early (unadded jobs false) i))) (Some (fault.SameName job.name)))
    (G (unadded jobs false))
job_alone false true jobs number job more F G later early = later (jobs ++ job ∷ [])
job_alone false false jobs number job more F G later early =
    λ i. unless_fault (option_or (option_map fault.Rejected (first_of (early (unadded jobs true) i))) (Some fault.Full))
    (G (unadded jobs true))

job_means :
    (faults : List LineFault) (jobs : List JobParts) (n number : ℕ) (job : JobParts) (more : List JobParts)
    (F : KnownJobs → List Finding) (G : KnownJobs → KnownJobs) → n ≡ length jobs →
    ((next : List JobParts) → strict (F (known_jobs next)) (G (known_jobs next)) ≡ known_with next (unless_faulty faults more)) →
    ((known : KnownJobs) → early_of (F (without_warnings known)) ≡ faults) →
    strict ((named_findings number job.name (is_some (number_of job.name jobs)) (nat_lt n most_jobs) ++ [])
    ++ F (named_after (is_some (number_of job.name jobs)) (nat_lt n most_jobs) jobs job))
    (G (named_after (is_some (number_of job.name jobs)) (nat_lt n most_jobs) jobs job))
    ≡ known_with jobs (unless_faulty faults (job ∷ more))
job_means [] jobs n number job more F G few later early =
    rw few (job_alone (is_some (number_of job.name jobs)) (nat_lt (length jobs) most_jobs) jobs number job more F G later early)
job_means (rejected ∷ others) jobs n number job more F G few later early =
    job_before (is_some (number_of job.name jobs)) (nat_lt n most_jobs) jobs number job rejected others F G early

line_means :
    (jobs : List JobParts) (kind : Kind) (is_beyond : Bool) (number : ℕ) (text : List ℕ) (read : LineReading (Option JobParts)) (more : List (Entry JobParts))
    (F : KnownJobs → List Finding) (G : KnownJobs → KnownJobs) →
    ((next : List JobParts) → strict (F (known_jobs next)) (G (known_jobs next)) ≡ known_with next (meant_by more)) →
    ((known : KnownJobs) → early_of (F (without_warnings known)) ≡ faults_of more) →
    strict (line_findings (known_jobs jobs) kind is_beyond (number + 1) text read ++ F (after_line (known_jobs jobs) read))
    (G (after_line (known_jobs jobs) read))
    ≡ known_with jobs (meant_by (cons_option (entry_on (number + 1) read) more))
line_means jobs kind is_beyond number text (Ok None) more F G later early = later jobs
line_means jobs kind is_beyond number text (Ok (Some job)) more F G later early =
    job_means (faults_of more) jobs (0 + length jobs) (number + 1) job (given more) F G (omega arith) later early
line_means jobs kind is_beyond number text (Err cause) more F G later early =
    let found = F (known_jobs jobs) in
    early_decides (error_at (number + 1) cause (field_quote text cause) (hint (number + 1) text) ∷ found) (G (known_jobs jobs))
    (fault_on_line (number + 1) cause) (early_of found) (λ i. cons_option (early_next number cause i) (early_of found))

lines_mean :
    (jobs : List JobParts) (label : List ℕ) (kind : Kind) (beyond : Option ℕ) (lines : List (ℕ × List ℕ)) →
    strict (lines_findings (known_jobs jobs) label kind beyond lines) (after_lines (known_jobs jobs) label kind lines)
    ≡ known_with jobs (meant_by (filter_map (line_entry label kind) lines))
lines_mean jobs label kind beyond [] = refl
lines_mean jobs label kind beyond (line ∷ more) =
    line_means jobs kind (is_first beyond (line.0 + 1)) line.0 line.1 (line_reading label kind (line.0 + 1) line.1) (filter_map (line_entry label kind) more)
    (λ known. lines_findings known label kind beyond more) (λ known. after_lines known label kind more)
    (λ next. lines_mean next label kind beyond more) (λ known. early_lines known label kind beyond more)

-- a text that is too large or not UTF-8 is rejected
text_means :
    (large utf8 : Bool) (jobs : List JobParts) (label : List ℕ) (kind : Kind) (bytes : List ℕ) →
    let text = on_line 0 (cond large (Err TooLarge) (cond utf8 (Ok bytes) (Err NotUtf8))) in
    strict (crontab_findings (known_jobs jobs) label kind text) (after_crontab (known_jobs jobs) label kind text)
    ≡ known_with jobs (text >>= λ text. meant_by (entries_of_lines label kind (lines text)))
unfolding entries_of_lines
text_means true utf8 jobs label kind bytes = refl
text_means false true jobs label kind bytes =
    let found = lines_findings (known_jobs jobs) label kind (first_beyond (lines bytes)) (enumerate_from 0 (lines bytes)) in
    let after = after_lines (known_jobs jobs) label kind (enumerate_from 0 (lines bytes)) in
    ap (λ (found : List Finding). strict found after) (append-nil found)
    ∙ lines_mean jobs label kind (first_beyond (lines bytes)) (enumerate_from 0 (lines bytes))
text_means false false jobs label kind bytes = refl

crontab_means :
    (jobs : List JobParts) (label : List ℕ) (kind : Kind) (bytes : List ℕ) →
    strict (crontab_findings (known_jobs jobs) label kind (text_reading bytes))
    (after_crontab (known_jobs jobs) label kind (text_reading bytes))
    ≡ known_with jobs (crontab_reading label kind bytes)
crontab_means jobs label kind bytes = text_means (is_too_large bytes) (is_utf8 bytes) jobs label kind bytes

-- ---- a file's name

abbrev OfName : Option LineCause → Type 0
OfName None = Unit {0}
OfName (Some cause) = OfLine cause

name_unless : (good : Bool) (cause : LineCause) → OfLine cause → OfName (cond good None (Some cause))
name_unless true cause of = tt
name_unless false cause of = of

of_name : (kind : SourceKind) (name : List ℕ) → OfName (file_cause kind name)
of_name Crontab name = tt
of_name System name = tt
of_name CronD name = name_unless (is_package_name name) BadTabName tt
of_name Spool [] = name_unless (is_user_name []) BadTabName tt
of_name Spool (first ∷ rest) = tt
of_name Timer name = name_unless (is_timer_name name) BadTimerName tt

-- a file whose name is bad has that error, whatever its text
named_means :
    (name : List ℕ) (cause : Option LineCause) (jobs : List JobParts) (reading : TextReading (List JobParts))
    (F : KnownJobs → List Finding) (G : KnownJobs → KnownJobs) → OfName cause →
    (cause ≡ None → strict (F (known_jobs jobs)) (G (known_jobs jobs)) ≡ known_with jobs reading) →
    strict (cons_option (option_map (name_error name) cause) [] ++ F (with_jobs (known_jobs jobs) (is_none cause)))
    (G (with_jobs (known_jobs jobs) (is_none cause)))
    ≡ known_with jobs (unless_named cause reading)
named_means name None jobs reading F G of means = means refl
named_means name (Some cause) jobs reading F G of means =
    let known = with_jobs (known_jobs jobs) false in
    early_decides (name_error name cause ∷ F known) (G known) (fault_on_line 0 cause)
    (early_of (F known)) (λ i. cons_option (early_line 0 cause of i) (early_of (F known)))

-- ---- the events of a timer

-- without a clock, the findings of events are the errors of those that are rejected
abbrev AreRejected : List Finding → List LineFault → Type 0
AreRejected found faults = (early_of found ≡ faults) × (faults ≡ [] → found ≡ [])

no_setting : (line : ℕ) (setting : Option Setting) → setting_findings None line setting ≡ []
no_setting line None = refl
no_setting line (Some setting) = refl

read_rejected :
    (line : ℕ) (text : List ℕ) (read : LineReading Calendar) (found : List Finding) (faults : List LineFault) → IfErr read OfLine →
    AreRejected found faults →
    AreRejected ((timers.read_findings None line text read ++ []) ++ found) (cons_option (fault_on line read) faults)
read_rejected line text (Ok event) found faults of are = are
read_rejected line text (Err cause) found faults of are = (λ i. cons_option (early_line line cause of i) (are.0 i), λ none. absurd cc)

abbrev OfStep : LineStep → Type 0
OfStep (Has entry) = IfErr entry.read OfLine
OfStep other = Unit {0}

step_rejected :
    (setting : Option Setting) (step : LineStep) (found : List Finding) (more : List (Entry Calendar)) → OfStep step →
    AreRejected found (faults_of more) →
    AreRejected ((step_findings None setting step ++ []) ++ found) (faults_of (cons_option (entry_of step) more))
step_rejected setting (Has entry) found more of are =
    read_rejected entry.line (value_of setting) entry.read found (faults_of more) of are
step_rejected setting Idle found more of are = are
step_rejected setting Empties found more of are = are
step_rejected setting (Names unit) found more of are = are

of_event :
    (room told : Bool) (number : ℕ) (read : Reading Calendar) →
    OfStep (cond room (Has (entry_at number (in_line read))) (cond told Idle (Has (entry_at number (Err TooManyLines)))))
of_event true told number read = of_rule read
of_event false true number read = tt
of_event false false number read = tt

of_step : (zones : Zones) (number : ℕ) (count : EventCount) (effect : Effect) → OfStep (line_by zones number count effect)
of_step zones number count Reset = tt
of_step zones number count (Event text) =
    of_event (nat_lt count.held most_events) count.told number (event_reading zones text)
of_step zones number count (Starts unit) = tt
of_step zones number count Nothing = tt

events_rejected :
    (state : TimerState) (lines : List (ℕ × List ℕ)) →
    AreRejected (timers.lines_findings None state lines)
    (faults_of (entries_from state.zones state.count (effects_from state.inside lines)))
events_rejected state [] = (refl, λ none. refl)
events_rejected state (line ∷ more) =
    let setting = timer_setting state.inside line.1 in
    let step = line_in state line in
    let next = state_after state line.1 in
    let entries = entries_from next.zones next.count (effects_from next.inside more) in
    subst (λ noted. AreRejected ((step_findings None setting step ++ noted) ++ timers.lines_findings None next more)
    (faults_of (cons_option (entry_of step) entries))) (sym (no_setting line.0 setting))
    (step_rejected setting step (timers.lines_findings None next more) entries
    (of_step state.zones line.0 state.count (effect_in state line.1)) (events_rejected next more))

-- ---- a timer

early_timer :
    (has a b : Bool) (name : List ℕ) (found : List Finding) →
    early_of (found_if (not has) 0 (Rejected NoTimerSection) None ++ (named_findings 0 name a b ++ found)) ≡ early_of found
early_timer true true b name found = refl
early_timer true false true name found = refl
early_timer true false false name found = refl
early_timer false true b name found = refl
early_timer false false true name found = refl
early_timer false false false name found = refl

-- the job of a timer that has a section and no rejected event
timer_added :
    (a b : Bool) (jobs : List JobParts) (job : JobParts) →
    strict (named_findings 0 job.name a b ++ []) (named_after a b jobs job)
    ≡ ((cond a (Err (fault.SameName job.name)) (cond b (Ok (jobs ++ job ∷ [])) (Err fault.Full)) >>= λ next. Ok next)
    >>= λ next. Ok (known_jobs next))
timer_added true b jobs job = refl
timer_added false true jobs job = refl
timer_added false false jobs job = refl

timer_means :
    (faults : List LineFault) (good has : Bool) (jobs : List JobParts) (n : ℕ) (job : JobParts) (found : List Finding) →
    n ≡ length jobs → good ≡ true → early_of found ≡ faults → (faults ≡ [] → found ≡ []) →
    strict (found_if (not has) 0 (Rejected NoTimerSection) None
    ++ (named_findings 0 job.name (is_some (number_of job.name jobs)) (nat_lt n most_jobs) ++ found))
    (cond (good && has) (named_after (is_some (number_of job.name jobs)) (nat_lt n most_jobs) jobs job)
    (after_other (known_jobs jobs) job.name))
    ≡ known_with jobs (alone (unless_faulty faults job >>= λ job. cond has (Ok job) (on_line 0 (Err NoTimerSection))))
timer_means [] good true jobs n job found few is early none =
    let a = is_some (number_of job.name jobs) in
    let b = nat_lt (length jobs) most_jobs in
    let P : Bool → List Finding → Type 0 = λ good found. strict (named_findings 0 job.name a b ++ found)
    (cond (good && true) (named_after a b jobs job) (after_other (known_jobs jobs) job.name))
    ≡ known_with jobs (Ok (job ∷ [])) in
    rw few (subst (λ good. P good found) (sym is) (subst (P true) (sym (none refl)) (timer_added a b jobs job)))
timer_means [] good false jobs n job found few is early none =
    let missing = (early_timer false (is_some (number_of job.name jobs)) (nat_lt n most_jobs) job.name found ∙ early) in
    λ i. unless_fault (option_or (option_map fault.Rejected (first_of (missing i)))
    (Some (fault.Rejected (fault_on_line 0 NoTimerSection))))
    (cond (good && false) (named_after (is_some (number_of job.name jobs)) (nat_lt n most_jobs) jobs job)
    (after_other (known_jobs jobs) job.name))
timer_means (rejected ∷ others) good has jobs n job found few is early none =
    early_decides (found_if (not has) 0 (Rejected NoTimerSection) None
    ++ (named_findings 0 job.name (is_some (number_of job.name jobs)) (nat_lt n most_jobs) ++ found))
    (cond (good && has) (named_after (is_some (number_of job.name jobs)) (nat_lt n most_jobs) jobs job)
    (after_other (known_jobs jobs) job.name)) rejected others
    (early_timer has (is_some (number_of job.name jobs)) (nat_lt n most_jobs) job.name found ∙ early)

-- the job is made at the end, and has its delay then
made_last :
    (faults : List LineFault) (has : Bool) (name : List ℕ) (draft : Draft) (first options : TimerOptions) →
    options.persistent ≡ first.persistent →
    (unless_faulty faults (timer_job name draft.unit draft.events options) >>= λ job. cond has (Ok job) (on_line 0 (Err NoTimerSection)))
    ≡ ((unless_faulty faults draft >>= λ draft. job_with has name draft.unit draft.events first)
    >>= λ job. Ok (record job { delay = delay_seconds options }))
made_last [] true name draft first options same =
    ap (λ persistent. Ok (record (timer_job name draft.unit draft.events options) { persistent = persistent })) same
made_last [] false name draft first options same = refl
made_last (rejected ∷ others) has name draft first options same = refl

-- a job with the delay that settings give in a context
abbrev delayed : TimerContext → List (ℕ × List ℕ) → JobParts → JobParts
delayed context lines job = record job { delay = delay_in context (settings_from false lines) }

lines_of_timer :
    (context : TimerContext) (jobs : List JobParts) (name bytes : List ℕ) (lines : List (ℕ × List ℕ)) → is_timer_name name ≡ true →
    strict (timer_findings context (known_jobs jobs) name bytes (Ok lines)) (after_timer context (known_jobs jobs) name (Ok lines))
    ≡ known_with jobs (alone (timer_of_lines context.zones name lines >>= λ job. Ok (delayed context lines job)))
lines_of_timer context jobs name bytes lines good =
    let faults = faults_of (entries_from context.zones no_events (effects_from false lines)) in
    let are = events_rejected (no_lines context.zones) lines in
    timer_means faults (is_timer_name name) (has_timer lines) jobs (0 + length jobs) (right_job context name lines)
    (timers.lines_findings None (no_lines context.zones) lines) (omega arith) good are.0 are.1
    ∙ ap (λ reading. known_with jobs (alone reading))
    (made_last faults (has_timer lines) name (lines_draft context.zones lines) (options_of (settings_from false lines))
    (options_in context (settings_from false lines)) refl)

timer_text_means :
    (large utf8 : Bool) (context : TimerContext) (jobs : List JobParts) (name bytes : List ℕ) (f : List ℕ → List (ℕ × List ℕ)) →
    is_timer_name name ≡ true →
    let text = on_line 0 (cond large (Err TooLarge) (cond utf8 (Ok bytes) (Err NotUtf8))) in
    strict (timer_findings context (known_jobs jobs) name bytes (text >>= λ text. Ok (f text)))
    (after_timer context (known_jobs jobs) name (text >>= λ text. Ok (f text)))
    ≡ known_with jobs (alone (((text >>= λ text. Ok (f text)) >>= λ lines. timer_of_lines context.zones name lines)
    >>= λ job. (text >>= λ text. Ok (f text)) >>= λ lines. Ok (delayed context lines job)))
timer_text_means true utf8 context jobs name bytes f good = refl
timer_text_means false true context jobs name bytes f good = lines_of_timer context jobs name bytes (f bytes) good
timer_text_means false false context jobs name bytes f good = refl

-- a timer whose name is good
timer_named :
    (good : Bool) (context : TimerContext) (jobs : List JobParts) (name bytes : List ℕ) → is_timer_name name ≡ good →
    cond good None (Some BadTimerName) ≡ None →
    strict (timer_findings context (known_jobs jobs) name bytes (timer_lines bytes))
    (after_timer context (known_jobs jobs) name (timer_lines bytes))
    ≡ known_with jobs (alone (cond good (timer_lines bytes >>= λ lines. timer_of_lines context.zones name lines)
    (on_line 0 (Err BadTimerName)) >>= λ job. timer_lines bytes >>= λ lines. Ok (delayed context lines job)))
timer_named true context jobs name bytes good named =
    timer_text_means (is_too_large bytes) (is_utf8 bytes) context jobs name bytes
    (λ text. map (λ line. (line.0, trimmed line.1)) (whole_lines text)) good
timer_named false context jobs name bytes good named = absurd cc

-- ---- a file

text_jobs :
    (context : TimerContext) (jobs : List JobParts) (kind : SourceKind) (name bytes : List ℕ) → file_cause kind name ≡ None →
    strict (text_findings context (known_jobs jobs) kind name bytes) (after_text context (known_jobs jobs) kind name bytes)
    ≡ known_with jobs (jobs_of_text context kind name bytes)
text_jobs context jobs Crontab name bytes named = crontab_means jobs (codes "cron") whose.User bytes
text_jobs context jobs System name bytes named = crontab_means jobs (codes "system") whose.System bytes
text_jobs context jobs CronD name bytes named = crontab_means jobs name whose.System bytes
text_jobs context jobs Spool name bytes named = crontab_means jobs name whose.User bytes
text_jobs context jobs Timer name bytes named = timer_named (is_timer_name name) context jobs name bytes refl named

pub law_of_readings :
    (context : TimerContext) (jobs : List JobParts) (file : File) →
    strictly context (known_jobs jobs) file ≡ known_with jobs (file_reading context file.kind file.name file.bytes)
law_of_readings context jobs file =
    named_means file.name (file_cause file.kind file.name) jobs (jobs_of_text context file.kind file.name file.bytes)
    (λ known. text_findings context known file.kind file.name file.bytes) (λ known. after_text context known file.kind file.name file.bytes)
    (of_name file.kind file.name) (text_jobs context jobs file.kind file.name file.bytes)
