-- The idle jobs among the jobs of sources, by their names: for `idle_jobs_are_excepted`.
--
-- No two jobs have one name, so what is left without the names of the idle jobs is what isn't idle (`without_names`). These names are
-- those of the lines that are idle (`names_are`), since each of these lines makes a job (`idle_makes`).
use Rattle.std.proofs.Common.{◌≡◌, ℕ, ◌+◌, ◌==◌, Bool, true, false, not, ◌||◌, ◌&&◌, cond, List, [], ◌∷◌, ◌++◌, length, map, filter, Option, None, Some, is_ok, is_some, Ok, Err, refl, ap, sym, subst, ◌∙◌, true≢false, append_assoc, arith}
use Rattle.std.proofs.lemmas.Bool.{or_from, or_parts}
use Rattle.std.proofs.lemmas.Bool.Decides.{nat_tests}
use Rattle.std.proofs.lemmas.List.Folds.{list_any-append}
use Rattle.std.proofs.lemmas.Slice.Eq.{bytes_eq-Decides}
use Rattle.std.specs.List.{cons_option, enumerate_from, filter_map, flat_map, list_any, slice_get}
use Rattle.std.specs.Prelude.{codes}
use Rattle.std.specs.Str.{byte, bytes_eq}
use Rattle.plan_check.specs.declared.TimerContext.{TimerContext}
use Rattle.plan_grammar.specs.Cron.{rule_in_front}
use Rattle.plan_rules.specs.declared.Entry.{Entry}
use Rattle.plan_rules.specs.declared.Kind.{Kind}
use Rattle.plan_rules.specs.declared.Kind.TheVariants as whose
use Rattle.plan_rules.specs.declared.LineCause.TheVariants.{BadSetting}
use Rattle.plan_rules.specs.declared.SourceKind.{SourceKind}
use Rattle.plan_rules.specs.declared.SourceKind.TheVariants.{Crontab, System, CronD, Spool, Timer}
use Rattle.plan_rules.specs.Crontab.{begins_setting, entries_of_lines, entry_reading, job_name, job_reading, line_entry, line_reading, setting_reading, what_reading}
use Rattle.plan_rules.specs.Entries.{entry_on}
use Rattle.plan_rules.specs.FileText.{text_reading}
use Rattle.plan_rules.specs.Job.{JobParts}
use Rattle.plan_rules.specs.Jobs.{is_named, is_other}
use Rattle.plan_rules.specs.LineFaults.{LineReading, TextReading, in_line}
use Rattle.plan_rules.specs.Timer.{has_timer, is_timer_name}
use Rattle.plan_rules.specs.TimerEntries.{timer_lines}
use Rattle.plan_check.specs.Timers.{right_job}
use Rattle.plan_runs.specs.declared.IdleJob.{IdleJob}
use Rattle.plan_runs.specs.Commands.{job_command}
use Rattle.plan_runs.specs.Idle.{active_crontab, active_lines, all_active, command_why, idle_from, idle_on, idle_why}
use Rattle.plan_runs.specs.Settings.{Settings, first_settings, is_read, settings_after}
use Rattle.plan_runs.specs.Texts.{KnownActive}
use Rattle.plan_texts.specs.Lines.{after_blanks, lines}
use Rattle.plan_texts.specs.Steps.{◌>>=◌}
use Rattle.plan_tree.specs.Tree.{Held}
use Rattle.agenda_sources.specs.declared.Source.{Source}
use Rattle.agenda_machine.specs.Idle.{kept_text}
use Rattle.agenda_machine.specs.IdleJobs.{idle_names, idle_names_if}
use Rattle.agenda_machine.specs.JobFiles.{label_of}
use Rattle.agenda_machine.proofs.ActiveLemmas.{active}
use Rattle.agenda_machine.proofs.AddedLemmas.{Add, makes, bars, Fits, add_of, adds_in, crontab_adds, is_good, is_in, jobs_of, source_adds, text_adds, timer_adds}

-- the names of the idle jobs among all that is added
abbrev pub idle_in : List Add → List (List ℕ)
idle_in [] = []
idle_in (makes true job ∷ more) = job.name ∷ idle_in more
idle_in (makes false job ∷ more) = idle_in more
idle_in (bars name ∷ more) = idle_in more

abbrev is_among : (name : List ℕ) → List (List ℕ) → Bool
is_among name names = list_any (λ other. bytes_eq other name) names

among_both : (name : List ℕ) (first more : List (List ℕ)) → is_among name (first ++ more) ≡ (is_among name first || is_among name more)
among_both name first more = list_any-append (λ other. bytes_eq other name) first more

same_bytes : (name : List ℕ) → bytes_eq name name ≡ true
same_bytes name = (bytes_eq-Decides name name).1 refl

-- two names that differ, by either test
differ_by : (b : Bool) (one other : List ℕ) → bytes_eq one other ≡ b → (one ≡ other → true ≡ false) → b ≡ false
differ_by true one other is differ = differ ((bytes_eq-Decides one other).0 is)
differ_by false one other is differ = refl

turned : (one other : List ℕ) → bytes_eq one other ≡ false → bytes_eq other one ≡ false
turned one other differ =
    differ_by (bytes_eq other one) other one refl (λ same. sym ((bytes_eq-Decides one other).1 (sym same)) ∙ differ)

or_true : (a b : Bool) → b ≡ true → (a || b) ≡ true
or_true true b is = refl
or_true false b is = is

or_first : (a b : Bool) → a ≡ true → (a || b) ≡ true
or_first a b is = ap (λ a. a || b) is

-- ---- without the names of idle jobs

-- no later job has the name of an earlier one
later_free :
    (others : List (List ℕ)) (jobs : List JobParts) (adds : List Add) (name : List ℕ) → list_any (is_named name) jobs ≡ true →
    Fits others jobs adds → is_among name (idle_in adds) ≡ false
later_free others jobs [] name there fits = refl
later_free others jobs (makes idle job ∷ more) name there fits =
    let free = (or_parts (list_any (bytes_eq job.name) others) (list_any (is_named job.name) jobs) fits.0).1 in
    let differ : bytes_eq job.name name ≡ false = differ_by (bytes_eq job.name name) job.name name refl
    (λ same. sym there ∙ ap (λ name. list_any (is_named name) jobs) (sym same) ∙ free) in
    let still = list_any-append (is_named name) jobs (job ∷ []) ∙ or_first (list_any (is_named name) jobs) _ there in
    by_mark idle job more name differ (later_free others (jobs ++ job ∷ []) more name still fits.2)
  where
    by_mark : (idle : Bool) (job : JobParts) (more : List Add) (name : List ℕ) → bytes_eq job.name name ≡ false →
        is_among name (idle_in more) ≡ false → is_among name (idle_in (makes idle job ∷ more)) ≡ false
    by_mark true job more name differ none = or_from (bytes_eq job.name name) (is_among name (idle_in more)) differ none
    by_mark false job more name differ none = none
later_free others jobs (bars other ∷ more) name there fits = later_free (others ++ other ∷ []) jobs more name there fits.2

-- these names are all of jobs
abbrev AreOf : (front : List (List ℕ)) → List JobParts → Type 0
AreOf front jobs = (name : List ℕ) → list_any (is_named name) jobs ≡ false → is_among name front ≡ false

more_jobs : (front : List (List ℕ)) (jobs : List JobParts) (job : JobParts) → AreOf front jobs → AreOf front (jobs ++ job ∷ [])
more_jobs front jobs job are = λ name none.
    are name (or_parts (list_any (is_named name) jobs) (list_any (is_named name) (job ∷ []))
    (sym (list_any-append (is_named name) jobs (job ∷ [])) ∙ none)).0

more_names :
    (front : List (List ℕ)) (jobs : List JobParts) (job : JobParts) → AreOf front jobs → AreOf (front ++ job.name ∷ []) (jobs ++ job ∷ [])
more_names front jobs job are = λ name none.
    let parts = or_parts (list_any (is_named name) jobs) (list_any (is_named name) (job ∷ []))
    (sym (list_any-append (is_named name) jobs (job ∷ [])) ∙ none) in
    let differ = (or_parts (bytes_eq name job.name) false parts.1).0 in
    among_both name front (job.name ∷ [])
    ∙ or_from (is_among name front) (is_among name (job.name ∷ [])) (are name parts.0)
    (or_from (bytes_eq job.name name) false (turned name job.name differ) refl)

filter_first :
    (test : JobParts → Bool) (job : JobParts) (more : List JobParts) → test job ≡ true → filter test (job ∷ more) ≡ job ∷ filter test more
filter_first test job more is = ap (λ b. cond b (job ∷ filter test more) (filter test more)) is

filter_rest :
    (test : JobParts → Bool) (job : JobParts) (more : List JobParts) → test job ≡ false → filter test (job ∷ more) ≡ filter test more
filter_rest test job more is = ap (λ b. cond b (job ∷ filter test more) (filter test more)) is

pub without_names :
    (others : List (List ℕ)) (jobs : List JobParts) (front : List (List ℕ)) (adds : List Add) → AreOf front jobs →
    Fits others jobs adds → filter (is_other (front ++ idle_in adds)) (jobs_of adds) ≡ jobs_of (active adds)
without_names others jobs front [] are fits = refl
without_names others jobs front (makes true job ∷ more) are fits =
    let names = front ++ job.name ∷ idle_in more in
    let found : is_among job.name names ≡ true = among_both job.name front (job.name ∷ idle_in more)
    ∙ or_true (is_among job.name front) _ (or_first (bytes_eq job.name job.name) (is_among job.name (idle_in more)) (same_bytes job.name)) in
    filter_rest (is_other names) job (jobs_of more) (ap not found)
    ∙ ap (λ names. filter (is_other names) (jobs_of more)) (sym (append_assoc front (job.name ∷ []) (idle_in more)))
    ∙ without_names others (jobs ++ job ∷ []) (front ++ job.name ∷ []) more (more_names front jobs job are) fits.2
without_names others jobs front (makes false job ∷ more) are fits =
    let names = front ++ idle_in more in
    let free = (or_parts (list_any (bytes_eq job.name) others) (list_any (is_named job.name) jobs) fits.0).1 in
    let there : list_any (is_named job.name) (jobs ++ job ∷ []) ≡ true = list_any-append (is_named job.name) jobs (job ∷ [])
    ∙ or_true (list_any (is_named job.name) jobs) _ (or_first (bytes_eq job.name job.name) false (same_bytes job.name)) in
    let none : is_among job.name names ≡ false = among_both job.name front (idle_in more)
    ∙ or_from (is_among job.name front) (is_among job.name (idle_in more)) (are job.name free)
    (later_free others (jobs ++ job ∷ []) more job.name there fits.2) in
    filter_first (is_other names) job (jobs_of more) (ap not none)
    ∙ ap (λ left. job ∷ left) (without_names others (jobs ++ job ∷ []) front more (more_jobs front jobs job are) fits.2)
without_names others jobs front (bars name ∷ more) are fits =
    without_names (others ++ name ∷ []) jobs front more are fits.2

-- lists with the same names
pub other_by_names :
    (these those : List (List ℕ)) (jobs : List JobParts) → ((name : List ℕ) → is_among name these ≡ is_among name those) →
    filter (is_other these) jobs ≡ filter (is_other those) jobs
other_by_names these those [] same = refl
other_by_names these those (job ∷ more) same =
    λ i. cond (not (same job.name i)) (job ∷ other_by_names these those more same i) (other_by_names these those more same i)

-- ---- the job of a line

-- a line with another label
abbrev relabelled : (label : List ℕ) → (number : ℕ) → LineReading (Option JobParts) → LineReading (Option JobParts)
relabelled label number (Ok (Some job)) = Ok (Some (record job { name = job_name label number }))
relabelled label number (Ok None) = Ok None
relabelled label number (Err cause) = Err cause

run_relabelled :
    {B : Type 0} (run : LineReading B) (make : List ℕ → B → JobParts) (label : List ℕ) (number : ℕ) →
    ((b : B) → record (make (job_name [] number) b) { name = job_name label number } ≡ make (job_name label number) b) →
    ((run >>= λ b. Ok (make (job_name label number) b)) >>= λ job. Ok (Some job))
    ≡ relabelled label number ((run >>= λ b. Ok (make (job_name [] number) b)) >>= λ job. Ok (Some job))
run_relabelled (Ok b) make label number same = ap (λ (job : JobParts). Ok (Some job)) (sym (same b))
run_relabelled (Err cause) make label number same = refl

job_relabelled :
    {A B : Type 0} (front : LineReading A) (run : A → LineReading B) (make : List ℕ → A → B → JobParts) (label : List ℕ) (number : ℕ) →
    ((a : A) (b : B) → record (make (job_name [] number) a b) { name = job_name label number } ≡ make (job_name label number) a b) →
    ((front >>= λ a. run a >>= λ b. Ok (make (job_name label number) a b)) >>= λ job. Ok (Some job))
    ≡ relabelled label number ((front >>= λ a. run a >>= λ b. Ok (make (job_name [] number) a b)) >>= λ job. Ok (Some job))
job_relabelled (Ok a) run make label number same = run_relabelled (run a) (λ name. make name a) label number (same a)
job_relabelled (Err cause) run make label number same = refl

by_first :
    (comment setting : Bool) (label : List ℕ) (number : ℕ) (is_setting job plain : LineReading (Option JobParts)) →
    is_setting ≡ relabelled label number is_setting → job ≡ relabelled label number plain →
    cond comment (Ok None) (cond setting is_setting job) ≡ relabelled label number (cond comment (Ok None) (cond setting is_setting plain))
by_first true setting label number is_setting job plain first second = refl
by_first false true label number is_setting job plain first second = first
by_first false false label number is_setting job plain first second = second

setting_relabelled :
    (label : List ℕ) (number : ℕ) (is : Bool) →
    cond is (Ok None) (Err BadSetting) ≡ relabelled label number (cond is (Ok None) (Err BadSetting))
setting_relabelled label number true = refl
setting_relabelled label number false = refl

entry_relabelled :
    (label : List ℕ) (kind : Kind) (number : ℕ) (text : List ℕ) (first : Option ℕ) →
    entry_reading label kind number text first ≡ relabelled label number (entry_reading [] kind number text first)
unfolding job_reading
entry_relabelled label kind number text None = refl
entry_relabelled label kind number text (Some first) =
    by_first (first == byte "#") (begins_setting first) label number (setting_reading text) _ _
    (setting_relabelled label number (list_any (λ b. b == byte "=") text))
    (job_relabelled (in_line (rule_in_front text)) (λ front. what_reading kind front.1)
    (λ name front run. record { name = name; user = run.0; command = run.1; rule = front.0; delay = 0; persistent = false })
    label number (λ front run. refl))

line_relabelled :
    (label : List ℕ) (kind : Kind) (number : ℕ) (line : List ℕ) →
    line_reading label kind number line ≡ relabelled label number (line_reading [] kind number line)
unfolding line_reading
line_relabelled label kind number line = entry_relabelled label kind number (after_blanks line) (slice_get (after_blanks line) 0)

-- ---- the entries

abbrev IsNamed : (label : List ℕ) → (number : ℕ) → LineReading JobParts → Type 0
IsNamed label number (Ok job) = job.name ≡ job_name label number
IsNamed label number (Err cause) = Unit {0}

-- each entry is named after its line
abbrev AreNamed : (label : List ℕ) → List (Entry JobParts) → Type 0
AreNamed label [] = Unit {0}
AreNamed label (entry ∷ more) = IsNamed label entry.line entry.read × AreNamed label more

one_named :
    (label : List ℕ) (number : ℕ) (read : LineReading (Option JobParts)) (more : List (Entry JobParts)) → AreNamed label more →
    AreNamed label (cons_option (entry_on number (relabelled label number read)) more)
one_named label number (Ok None) more named = named
one_named label number (Ok (Some job)) more named = (refl, named)
one_named label number (Err cause) more named = (tt, named)

lines_named :
    (label : List ℕ) (kind : Kind) (place : ℕ) (ls : List (List ℕ)) →
    AreNamed label (filter_map (line_entry label kind) (enumerate_from place ls))
lines_named label kind place [] = tt
lines_named label kind place (line ∷ more) =
    let rest = filter_map (line_entry label kind) (enumerate_from (place + 1) more) in
    subst (λ read. AreNamed label (cons_option (entry_on (place + 1) read) rest)) (sym (line_relabelled label kind (place + 1) line))
    (one_named label (place + 1) (line_reading [] kind (place + 1) line) rest (lines_named label kind (place + 1) more))

-- the line with this number makes a job
abbrev has_job : List (Entry JobParts) → (number : ℕ) → Bool
has_job entries number = list_any (λ entry. (entry.line == number) && is_ok entry.read) entries

has_more :
    (number at : ℕ) (read : LineReading (Option JobParts)) (more : List (Entry JobParts)) → has_job more number ≡ true →
    has_job (cons_option (entry_on at read) more) number ≡ true
has_more number at (Ok None) more has = has
has_more number at (Ok (Some job)) more has = or_true _ (has_job more number) has
has_more number at (Err cause) more has = or_true _ (has_job more number) has

-- ---- each idle line makes a job

abbrev makes_job : LineReading (Option JobParts) → Bool
makes_job (Ok (Some job)) = true
makes_job (Ok None) = false
makes_job (Err cause) = false

still_makes : (label : List ℕ) (number : ℕ) (read : LineReading (Option JobParts)) → makes_job (relabelled label number read) ≡ makes_job read
still_makes label number (Ok (Some job)) = refl
still_makes label number (Ok None) = refl
still_makes label number (Err cause) = refl

why_makes :
    (held : Held) (settings : Settings) (is_read : Bool) (read : LineReading (Option JobParts)) →
    is_some (command_why held settings (cond is_read (job_command settings.is_roots read) None)) ≡ true → makes_job read ≡ true
why_makes held settings true (Ok (Some job)) is = refl
why_makes held settings true (Ok None) is = absurd (true≢false (sym is))
why_makes held settings true (Err cause) is = absurd (true≢false (sym is))
why_makes held settings false read is = absurd (true≢false (sym is))

idle_line :
    (held : Held) (kind : Kind) (settings : Settings) (label : List ℕ) (number : ℕ) (line : List ℕ) →
    is_some (idle_why held kind settings number line) ≡ true → makes_job (line_reading label kind number line) ≡ true
idle_line held kind settings label number line is =
    ap makes_job (line_relabelled label kind number line) ∙ still_makes label number (line_reading [] kind number line)
    ∙ why_makes held settings (is_read settings) (line_reading [] kind number line) is

or_either : (here rest more : Bool) → (rest ≡ true → more ≡ true) → (here || rest) ≡ true → ((here && true) || more) ≡ true
or_either true rest more later is = refl
or_either false rest more later is = later is

one_makes :
    (why : Option (List ℕ)) (at number : ℕ) (read : LineReading (Option JobParts)) (rest : List IdleJob) (more : List (Entry JobParts)) →
    (is_some why ≡ true → makes_job read ≡ true) → (is_in rest number ≡ true → has_job more number ≡ true) →
    is_in (cons_option (idle_on at why) rest) number ≡ true → has_job (cons_option (entry_on at read) more) number ≡ true
one_makes None at number read rest more makes_one later is = has_more number at read more (later is)
one_makes (Some why) at number (Ok (Some job)) rest more makes_one later is =
    or_either (at == number) (is_in rest number) (has_job more number) later is
one_makes (Some why) at number (Ok None) rest more makes_one later is = absurd (true≢false (sym (makes_one refl)))
one_makes (Some why) at number (Err cause) rest more makes_one later is = absurd (true≢false (sym (makes_one refl)))

idle_makes :
    (held : Held) (kind : Kind) (settings : Settings) (label : List ℕ) (place number : ℕ) (ls : List (List ℕ)) →
    is_in (idle_from held kind settings (place + 1) ls) number ≡ true →
    has_job (filter_map (line_entry label kind) (enumerate_from place ls)) number ≡ true
idle_makes held kind settings label place number [] is = absurd (true≢false (sym is))
idle_makes held kind settings label place number (line ∷ more) is =
    one_makes (idle_why held kind settings (place + 1) line) (place + 1) number (line_reading label kind (place + 1) line)
    (idle_from held kind (settings_after settings line) (place + 1 + 1) more)
    (filter_map (line_entry label kind) (enumerate_from (place + 1) more))
    (idle_line held kind settings label (place + 1) line)
    (idle_makes held kind (settings_after settings line) label (place + 1) number more) is

-- ---- the names of the idle lines are those of the idle jobs

abbrev idle_labels : (label : List ℕ) → List IdleJob → List (List ℕ)
idle_labels label idle = map (λ job. job_name label job.line) idle

number_same : (n : ℕ) → (n == n) ≡ true
number_same n = grind (arith, nat_tests)

number_is : (a b : ℕ) → (a == b) ≡ true → a ≡ b
number_is a b is = grind (arith, nat_tests, is)

-- a line with this name, of which this is true
abbrev OfLine : (label name : List ℕ) → (ℕ → Bool) → Type 0
OfLine label name test = (number : ℕ) × (test number ≡ true) × (job_name label number ≡ name)

labels_of : (label name : List ℕ) (idle : List IdleJob) → is_among name (idle_labels label idle) ≡ true → OfLine label name (is_in idle)
labels_of label name [] is = absurd (true≢false (sym is))
labels_of label name (job ∷ more) is = by_test (bytes_eq (job_name label job.line) name) refl (labels_of label name more) is
  where
    by_test : (b : Bool) → bytes_eq (job_name label job.line) name ≡ b →
        (is_among name (idle_labels label more) ≡ true → OfLine label name (is_in more)) →
        (b || is_among name (idle_labels label more)) ≡ true → OfLine label name (is_in (job ∷ more))
    by_test true same later is = (
      job.line,
      or_first (job.line == job.line) (is_in more job.line) (number_same job.line),
      (bytes_eq-Decides (job_name label job.line) name).0 same,
    )
    by_test false differ later is =
        let there = later is in
        (there.0, or_true (job.line == there.0) (is_in more there.0) there.1, there.2)

label_there :
    (label : List ℕ) (number : ℕ) (idle : List IdleJob) → is_in idle number ≡ true →
    is_among (job_name label number) (idle_labels label idle) ≡ true
label_there label number [] is = absurd (true≢false (sym is))
label_there label number (job ∷ more) is = by_test (job.line == number) refl (label_there label number more) is
  where
    by_test : (b : Bool) → (job.line == number) ≡ b →
        (is_in more number ≡ true → is_among (job_name label number) (idle_labels label more) ≡ true) →
        (b || is_in more number) ≡ true → is_among (job_name label number) (idle_labels label (job ∷ more)) ≡ true
    by_test true same later is =
        or_first (bytes_eq (job_name label job.line) (job_name label number)) (is_among (job_name label number) (idle_labels label more))
        (ap (λ n. bytes_eq (job_name label n) (job_name label number)) (number_is job.line number same)
        ∙ same_bytes (job_name label number))
    by_test false differ later is =
        or_true (bytes_eq (job_name label job.line) (job_name label number)) _ (later is)

among_more :
    (name : List ℕ) (idle : Bool) (read : LineReading JobParts) (more : List Add) → is_among name (idle_in more) ≡ true →
    is_among name (idle_in (cons_option (add_of idle read) more)) ≡ true
among_more name true (Ok job) more is = or_true (bytes_eq job.name name) (is_among name (idle_in more)) is
among_more name false (Ok job) more is = is
among_more name idle (Err cause) more is = is

among_first :
    (name : List ℕ) (idle : Bool) (job : JobParts) (more : List Add) → idle ≡ true → job.name ≡ name →
    is_among name (idle_in (makes idle job ∷ more)) ≡ true
among_first name true job more is named =
    or_first (bytes_eq job.name name) (is_among name (idle_in more)) ((bytes_eq-Decides job.name name).1 named)
among_first name false job more is named = absurd (true≢false (sym is))

one_there :
    (label : List ℕ) (gone : ℕ → Bool) (number line : ℕ) (b : Bool) (read : LineReading JobParts) (more : List Add) (has : Bool) →
    gone number ≡ true → (line == number) ≡ b → IsNamed label line read →
    (has ≡ true → is_among (job_name label number) (idle_in more) ≡ true) → ((b && is_ok read) || has) ≡ true →
    is_among (job_name label number) (idle_in (cons_option (add_of (gone line) read) more)) ≡ true
one_there label gone number line true (Ok job) more has idle same named later is =
    let equal = number_is line number same in
    among_first (job_name label number) (gone line) job more (ap gone equal ∙ idle) (named ∙ ap (job_name label) equal)
one_there label gone number line false (Ok job) more has idle same named later is =
    among_more (job_name label number) (gone line) (Ok job) more (later is)
one_there label gone number line true (Err cause) more has idle same named later is = later is
one_there label gone number line false (Err cause) more has idle same named later is = later is

job_there :
    (label : List ℕ) (gone : ℕ → Bool) (number : ℕ) (entries : List (Entry JobParts)) → gone number ≡ true → AreNamed label entries →
    has_job entries number ≡ true → is_among (job_name label number) (idle_in (adds_in gone entries)) ≡ true
job_there label gone number [] idle named has = absurd (true≢false (sym has))
job_there label gone number (entry ∷ more) idle named has =
    one_there label gone number entry.line (entry.line == number) entry.read (adds_in gone more) (has_job more number) idle refl named.0
    (job_there label gone number more idle named.1) has

one_of :
    (label name : List ℕ) (gone : ℕ → Bool) (line : ℕ) (idle : Bool) (read : LineReading JobParts) (more : List Add) →
    gone line ≡ idle → IsNamed label line read → (is_among name (idle_in more) ≡ true → OfLine label name gone) →
    is_among name (idle_in (cons_option (add_of idle read) more)) ≡ true → OfLine label name gone
one_of label name gone line true (Ok job) more is named later found = by_test (bytes_eq job.name name) refl found
  where
    by_test : (b : Bool) → bytes_eq job.name name ≡ b → (b || is_among name (idle_in more)) ≡ true → OfLine label name gone
    by_test true same found = (line, is, sym named ∙ (bytes_eq-Decides job.name name).0 same)
    by_test false differ found = later found
one_of label name gone line false (Ok job) more is named later found = later found
one_of label name gone line idle (Err cause) more is named later found = later found

jobs_line :
    (label name : List ℕ) (gone : ℕ → Bool) (entries : List (Entry JobParts)) → AreNamed label entries →
    is_among name (idle_in (adds_in gone entries)) ≡ true → OfLine label name gone
jobs_line label name gone [] named found = absurd (true≢false (sym found))
jobs_line label name gone (entry ∷ more) named found =
    one_of label name gone entry.line (gone entry.line) entry.read (adds_in gone more) refl named.0
    (jobs_line label name gone more named.1) found

both : (a b : Bool) → (a ≡ true → b ≡ true) → (b ≡ true → a ≡ true) → a ≡ b
both true b there back = sym (there refl)
both false true there back = back refl
both false false there back = refl

labels_are :
    (label name : List ℕ) (idle : List IdleJob) (entries : List (Entry JobParts)) → AreNamed label entries →
    ((number : ℕ) → is_in idle number ≡ true → has_job entries number ≡ true) →
    is_among name (idle_labels label idle) ≡ is_among name (idle_in (adds_in (is_in idle) entries))
labels_are label name idle entries named has =
    both _ _
    (λ found. let there = labels_of label name idle found in
    subst (λ name. is_among name (idle_in (adds_in (is_in idle) entries)) ≡ true) there.2
    (job_there label (is_in idle) there.0 entries there.1 named (has there.0 there.1)))
    (λ found. let there = jobs_line label name (is_in idle) entries named found in
    subst (λ name. is_among name (idle_labels label idle) ≡ true) there.2 (label_there label there.0 idle there.1))

-- ---- a crontab, and all sources

idle_of_lines :
    (none : Bool) (bytes : List ℕ) (known : KnownActive) (number : ℕ) →
    is_in (cond none (all_active bytes) known).idle number ≡ true → is_in known.idle number ≡ true
idle_of_lines true bytes known number is = absurd (true≢false (sym is))
idle_of_lines false bytes known number is = is

crontab_names :
    (held : Held) (owner label : List ℕ) (kind : Kind) (bytes : List ℕ) (read : TextReading (List ℕ)) (name : List ℕ) →
    is_among name (idle_labels label (active_crontab held kind owner bytes read).idle)
    ≡ is_among name (idle_in (crontab_adds held owner label kind bytes read))
unfolding entries_of_lines
crontab_names held owner label kind bytes (Ok text) name =
    labels_are label name (active_crontab held kind owner bytes (Ok text)).idle
    (filter_map (line_entry label kind) (enumerate_from 0 (lines text))) (lines_named label kind 0 (lines text))
    (λ number is. idle_makes held kind (first_settings owner) label 0 number (lines text)
    (idle_of_lines (length (active_lines held kind owner (lines text)).idle == 0) bytes (active_lines held kind owner (lines text)) number is))
crontab_names held owner label kind bytes (Err fault) name = refl

none_of : (is : Bool) (job : JobParts) (other name : List ℕ) →
    is_among name (idle_in (cond is (makes false job ∷ []) (bars other ∷ []))) ≡ false
none_of true job other name = refl
none_of false job other name = refl

timer_names :
    (context : TimerContext) (timer : List ℕ) (read : TextReading (List (ℕ × List ℕ))) (name : List ℕ) →
    is_among name (idle_in (timer_adds context timer read)) ≡ false
timer_names context timer (Ok ls) name = none_of (is_timer_name timer && has_timer ls) (right_job context timer ls) timer name
timer_names context timer (Err fault) name = refl

text_names :
    (context : TimerContext) (held : Held) (kind : SourceKind) (file bytes name : List ℕ) →
    is_among name (idle_labels (label_of kind file) (kept_text held false kind file bytes).idle)
    ≡ is_among name (idle_in (text_adds context held kind file bytes))
text_names context held Crontab file bytes name = crontab_names held file (codes "cron") whose.User bytes (text_reading bytes) name
text_names context held System file bytes name = crontab_names held file (codes "system") whose.System bytes (text_reading bytes) name
text_names context held CronD file bytes name = crontab_names held file file whose.System bytes (text_reading bytes) name
text_names context held Spool file bytes name = crontab_names held file file whose.User bytes (text_reading bytes) name
text_names context held Timer file bytes name = sym (timer_names context file (timer_lines bytes) name)

source_names :
    (good : Bool) (context : TimerContext) (held : Held) (source : Source) (name : List ℕ) →
    is_among name (idle_names_if good held source)
    ≡ is_among name (idle_in (cond good (text_adds context held source.kind source.name source.bytes) []))
source_names true context held source name = text_names context held source.kind source.name source.bytes name
source_names false context held source name = refl

idle_after : (first more : List Add) → idle_in (first ++ more) ≡ idle_in first ++ idle_in more
idle_after [] more = refl
idle_after (makes true job ∷ first) more = ap (λ names. job.name ∷ names) (idle_after first more)
idle_after (makes false job ∷ first) more = idle_after first more
idle_after (bars name ∷ first) more = idle_after first more

pub names_are :
    (context : TimerContext) (held : Held) (sources : List Source) (name : List ℕ) →
    is_among name (idle_names held sources) ≡ is_among name (idle_in (flat_map (source_adds context held) sources))
names_are context held [] name = refl
names_are context held (source ∷ more) name =
    let here = source_adds context held source in
    let rest = flat_map (source_adds context held) more in
    among_both name (idle_names_if (is_good source) held source) (idle_names held more)
    ∙ (λ i. source_names (is_good source) context held source name i || names_are context held more name i)
    ∙ sym (among_both name (idle_in here) (idle_in rest))
    ∙ ap (is_among name) (sym (idle_after here rest))
