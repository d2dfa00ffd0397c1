-- The entries of a text without its idle jobs: for `idle_jobs_are_left_out`.
--
-- `left_out` is the law for any test on line numbers that agrees with what is idle, and `agrees_from` says that the list of
-- the idle jobs is such a test.
use Rattle.std.proofs.Common.{◌≡◌, ℕ, ◌+◌, ◌<◌, ◌==◌, Bool, true, false, not, cond, if◌then◌else◌, List, [], ◌∷◌, ◌++◌, length, filter, Option, Some, None, is_some, Ok, Err, refl, ap, subst, ◌∙◌, append_assoc, arith}
use Rattle.std.proofs.lemmas.Bool.Decides.{nat_tests}
use Rattle.std.proofs.lemmas.List.{append-nil}
use Rattle.std.proofs.lemmas.List.Elements.{All-nil, All-cons, All-head, All-tail}
use Rattle.std.proofs.lemmas.List.Folds.{list_any-append}
use Rattle.std.specs.List.{All, cons_option, enumerate_from, filter_map, list_any}
use Rattle.plan_parts.proofs.LinesLemmas.{lines_of_written}
use Rattle.plan_rules.specs.declared.crontabs.Kind.{Kind}
use Rattle.plan_rules.specs.declared.entry.Entry.{Entry}
use Rattle.plan_rules.specs.Crontab.{entries_of_lines, line_entry, line_reading}
use Rattle.plan_rules.specs.Entries.{entry_on}
use Rattle.plan_rules.specs.Job.{JobParts}
use Rattle.plan_rules.specs.LineFaults.{LineReading}
use Rattle.plan_texts.proofs.LinesLemmas.{none_in_lines}
use Rattle.plan_texts.specs.Lines.{HasNoNewline, lines}
use Rattle.plan_tree.specs.Tree.{Held}
use Rattle.plan_runs.specs.declared.idle.IdleJob.{IdleJob}
use Rattle.plan_runs.specs.Commands.{job_command}
use Rattle.plan_runs.specs.Idle.{IdleJobsAreLeftOut, active_lines, active_or_all, idle_from, idle_on, command_why, idle_why, is_active, kept_from, kept_line}
use Rattle.plan_runs.specs.Settings.{Settings, first_settings, is_read, settings_after}
use Rattle.plan_runs.specs.Texts.{KnownActive}

-- ---- the entries that are left

-- a test on line numbers says of each line whether its job is idle; the first line is at this place, from 0
abbrev Agrees : Held → Kind → Settings → (gone : ℕ → Bool) → (place : ℕ) → List (List ℕ) → Type 0
Agrees held kind settings gone place [] = Unit {0}
Agrees held kind settings gone place (line ∷ more) =
    (gone (place + 1) ≡ is_some (idle_why held kind settings (place + 1) line))
    × Agrees held kind (settings_after settings line) gone (place + 1) more

-- an empty line has no entry
empty_line : (label : List ℕ) (kind : Kind) (number : ℕ) → line_reading label kind number [] ≡ Ok None
unfolding line_reading
empty_line label kind number = refl

empty_command :
    (held : Held) (kind : Kind) (settings : Settings) (is_read : Bool) (number : ℕ) →
    command_why held settings (if is_read then job_command settings.is_roots (line_reading [] kind number []) else None) ≡ None
empty_command held kind settings true number = rw (empty_line [] kind number) refl
empty_command held kind settings false number = refl

-- an empty line has no idle job
pub empty_why : (held : Held) (kind : Kind) (settings : Settings) (number : ℕ) → idle_why held kind settings number [] ≡ None
empty_why held kind settings number = empty_command held kind settings (is_read settings) number

-- the entries of a line that stays
stays :
    (gone : ℕ → Bool) (number : ℕ) (read : LineReading (Option JobParts)) (left all : List (Entry JobParts)) →
    gone number ≡ false → left ≡ filter (λ entry. not (gone entry.line)) all →
    cons_option (entry_on number read) left ≡ filter (λ entry. not (gone entry.line)) (cons_option (entry_on number read) all)
stays gone number (Ok None) left all active rest = rest
stays gone number (Ok (Some job)) left all active rest = rw (active, rest) refl
stays gone number (Err cause) left all active rest = rw (active, rest) refl

-- the entries of a line that leaves an empty one
goes :
    (gone : ℕ → Bool) (number : ℕ) (read : LineReading (Option JobParts)) (left all : List (Entry JobParts)) →
    gone number ≡ true → left ≡ filter (λ entry. not (gone entry.line)) all →
    left ≡ filter (λ entry. not (gone entry.line)) (cons_option (entry_on number read) all)
goes gone number (Ok None) left all idle rest = rest
goes gone number (Ok (Some job)) left all idle rest = rw idle rest
goes gone number (Err cause) left all idle rest = rw idle rest

one_line :
    (gone : ℕ → Bool) (label : List ℕ) (kind : Kind) (number : ℕ) (line : List ℕ) (why : Option (List ℕ))
    (left all : List (Entry JobParts)) →
    gone number ≡ is_some why → left ≡ filter (λ entry. not (gone entry.line)) all →
    cons_option (entry_on number (line_reading label kind number (kept_line why line))) left
    ≡ filter (λ entry. not (gone entry.line)) (cons_option (entry_on number (line_reading label kind number line)) all)
one_line gone label kind number line None left all active rest =
    stays gone number (line_reading label kind number line) left all active rest
one_line gone label kind number line (Some why) left all idle rest =
    rw (empty_line label kind number) (goes gone number (line_reading label kind number line) left all idle rest)

left_out :
    (held : Held) (kind : Kind) (settings : Settings) (gone : ℕ → Bool) (label : List ℕ) (place : ℕ) (ls : List (List ℕ)) →
    Agrees held kind settings gone place ls →
    filter_map (line_entry label kind) (enumerate_from place (kept_from held kind settings (place + 1) ls))
    ≡ filter (λ entry. not (gone entry.line)) (filter_map (line_entry label kind) (enumerate_from place ls))
left_out held kind settings gone label place [] agrees = refl
left_out held kind settings gone label place (line ∷ more) agrees =
    one_line gone label kind (place + 1) line (idle_why held kind settings (place + 1) line)
    (filter_map (line_entry label kind) (enumerate_from (place + 1) (kept_from held kind (settings_after settings line) (place + 1 + 1) more)))
    (filter_map (line_entry label kind) (enumerate_from (place + 1) more))
    agrees.0 (left_out held kind (settings_after settings line) gone label (place + 1) more agrees.1)

-- ---- the list of the idle jobs

abbrev in_idle : List IdleJob → ℕ → Bool
in_idle idle number = list_any (λ job. job.line == number) idle

idle_above : (number : ℕ) (at : ℕ) (why : Option (List ℕ)) (rest : List IdleJob) →
    number < at → in_idle rest number ≡ false → in_idle (cons_option (idle_on at why) rest) number ≡ false
idle_above number at None rest less none = none
idle_above number at (Some why) rest less none = grind (arith, nat_tests)

-- no line above the first one is in the list
none_above :
    (held : Held) (kind : Kind) (settings : Settings) (first number : ℕ) (ls : List (List ℕ)) → number < first →
    in_idle (idle_from held kind settings first ls) number ≡ false
none_above held kind settings first number [] less = refl
none_above held kind settings first number (line ∷ more) less =
    idle_above number first (idle_why held kind settings first line) (idle_from held kind (settings_after settings line) (first + 1) more) less
    (none_above held kind (settings_after settings line) (first + 1) number more (omega arith))

-- the test at the line itself
at_line :
    (front rest : List IdleJob) (number : ℕ) (why : Option (List ℕ)) →
    in_idle front number ≡ false → in_idle rest number ≡ false →
    in_idle (front ++ cons_option (idle_on number why) rest) number ≡ is_some why
at_line front rest number None above below = rw (list_any-append (λ job. job.line == number) front rest, above, below) refl
at_line front rest number (Some why) above below =
    let same : (number == number) ≡ true = grind (arith, nat_tests) in
    rw (list_any-append (λ job. job.line == number) front (record { line = number; why = why } ∷ rest), above, same) refl

joined : (front : List IdleJob) (one : Option IdleJob) (rest : List IdleJob) →
    (front ++ cons_option one []) ++ rest ≡ front ++ cons_option one rest
joined front None rest = ap (λ jobs. jobs ++ rest) (append-nil front)
joined front (Some job) rest = append_assoc front (job ∷ []) rest

-- a job more is in no line below its own
more_above :
    (front : List IdleJob) (number : ℕ) (why : Option (List ℕ)) (below : ℕ) → number < below →
    in_idle front below ≡ false → in_idle (front ++ cons_option (idle_on number why) []) below ≡ false
more_above front number None below less none = rw (append-nil front) none
more_above front number (Some why) below less none =
    let other : (number == below) ≡ false = grind (arith, nat_tests) in
    rw (list_any-append (λ job. job.line == below) front (record { line = number; why = why } ∷ []), none, other) refl

agrees_from :
    (held : Held) (kind : Kind) (settings : Settings) (front : List IdleJob) (place : ℕ) (ls : List (List ℕ)) →
    ((number : ℕ) → place < number → in_idle front number ≡ false) →
    Agrees held kind settings (in_idle (front ++ idle_from held kind settings (place + 1) ls)) place ls
agrees_from held kind settings front place [] above = tt
agrees_from held kind settings front place (line ∷ more) above =
    let why = idle_why held kind settings (place + 1) line in
    let next = settings_after settings line in
    let rest = idle_from held kind next (place + 1 + 1) more in
    let before = front ++ cons_option (idle_on (place + 1) why) [] in
    let here = at_line front rest (place + 1) why (above (place + 1) (omega arith))
    (none_above held kind next (place + 1 + 1) (place + 1) more (omega arith)) in
    let P : List IdleJob → Type 0 = λ idle. Agrees held kind next (in_idle idle) (place + 1) more in
    let there = agrees_from held kind next before (place + 1) more (λ number less.
    more_above front (place + 1) why number less (above number (omega (arith, less)))) in
    (here, subst P (joined front (idle_on (place + 1) why) rest) there)

-- ---- the text

none_kept :
    (why : Option (List ℕ)) (line : List ℕ) → HasNoNewline line → HasNoNewline (kept_line why line)
none_kept None line none = none
none_kept (Some why) line none = refl

kept_none :
    (held : Held) (kind : Kind) (settings : Settings) (number : ℕ) (ls : List (List ℕ)) → All HasNoNewline ls →
    All HasNoNewline (kept_from held kind settings number ls)
kept_none held kind settings number [] none = All-nil HasNoNewline
kept_none held kind settings number (line ∷ more) none =
    All-cons HasNoNewline (kept_line (idle_why held kind settings number line) line)
    (kept_from held kind (settings_after settings line) (number + 1) more)
    (none_kept (idle_why held kind settings number line) line (All-head HasNoNewline line more none))
    (kept_none held kind (settings_after settings line) (number + 1) more (All-tail HasNoNewline line more none))

filter_all : {A : Type 0} (xs : List A) → xs ≡ filter (λ x. true) xs
filter_all [] = refl
filter_all (x ∷ more) = ap (λ rest. x ∷ rest) (filter_all more)

-- the law where some jobs are idle, and so it goes for the lines themselves
in_lines :
    (held : Held) (kind : Kind) (owner label text : List ℕ) →
    entries_of_lines label kind (lines (active_lines held kind owner (lines text)).text)
    ≡ filter (λ entry. is_active (active_lines held kind owner (lines text)).idle entry) (entries_of_lines label kind (lines text))
unfolding entries_of_lines
in_lines held kind owner label text =
    let ls = lines text in
    let kept = kept_from held kind (first_settings owner) 1 ls in
    ap (λ (found : List (List ℕ)). filter_map (line_entry label kind) (enumerate_from 0 found))
    (lines_of_written kept (kept_none held kind (first_settings owner) 1 ls (none_in_lines text)))
    ∙ left_out held kind (first_settings owner) (in_idle (idle_from held kind (first_settings owner) 1 ls)) label 0 ls
    (agrees_from held kind (first_settings owner) [] 0 ls (λ number less. refl))

either :
    (label : List ℕ) (kind : Kind) (text : List ℕ) (active : KnownActive) →
    entries_of_lines label kind (lines active.text)
    ≡ filter (λ entry. is_active active.idle entry) (entries_of_lines label kind (lines text)) →
    entries_of_lines label kind (lines (active_or_all text active).text)
    ≡ filter (λ entry. is_active (active_or_all text active).idle entry) (entries_of_lines label kind (lines text))
either label kind text active law =
    elim (length active.idle == 0) as (λ (none : Bool). entries_of_lines label kind (lines (cond none (record { text = text; idle = [] }) active).text)
    ≡ filter (λ entry. is_active (cond none (record { text = text; idle = [] }) active).idle entry) (entries_of_lines label kind (lines text))) [
      | true ↦ filter_all (entries_of_lines label kind (lines text))
      | false ↦ law
    ]

pub idle_jobs_are_left_out : IdleJobsAreLeftOut
idle_jobs_are_left_out held kind owner label text =
    either label kind text (active_lines held kind owner (lines text)) (in_lines held kind owner label text)
