-- The jobs that are added without idle jobs: for `idle_jobs_are_excepted`.
--
-- What a file without its idle jobs adds is what it adds but these jobs (`kept_run`). If nothing is wrong with the names of all, nothing
-- is wrong with those of fewer (`active_fit`).
use Rattle.std.proofs.Common.{◌≡◌, ℕ, ◌+◌, ◌≤◌, Bool, true, false, not, ◌&&◌, nat_lt, cond, List, [], ◌∷◌, ◌++◌, length, filter, Ok, Err, refl, ap, sym, subst, ◌∙◌, arith}
use Rattle.std.proofs.lemmas.Bool.{or_from, or_parts}
use Rattle.std.proofs.lemmas.Bool.Decides.{nat_tests}
use Rattle.std.proofs.lemmas.List.{length-append}
use Rattle.std.proofs.lemmas.List.Folds.{list_any-append}
use Rattle.std.specs.List.{cons_option, enumerate_from, filter_map, flat_map, list_any}
use Rattle.std.specs.Prelude.{codes}
use Rattle.std.specs.Str.{bytes_eq, is_utf8}
use Rattle.plan_check.specs.declared.TimerContext.{TimerContext}
use Rattle.plan_check.specs.Crontabs.{after_crontab}
use Rattle.plan_check.specs.Files.{after_file, after_text}
use Rattle.plan_check.specs.Known.{KnownJobs, with_jobs}
use Rattle.plan_rules.specs.declared.Entry.{Entry}
use Rattle.plan_rules.specs.declared.Kind.{Kind}
use Rattle.plan_rules.specs.declared.Kind.TheVariants as whose
use Rattle.plan_rules.specs.declared.LineCause.TheVariants.{NotUtf8, TooLarge}
use Rattle.plan_rules.specs.declared.SourceKind.{SourceKind}
use Rattle.plan_rules.specs.declared.SourceKind.TheVariants.{Crontab, System, CronD, Spool, Timer}
use Rattle.plan_rules.specs.Crontab.{entries_of_lines, line_entry}
use Rattle.plan_rules.specs.FileText.{text_reading}
use Rattle.plan_rules.specs.Job.{JobParts}
use Rattle.plan_rules.specs.Jobs.{is_named}
use Rattle.plan_rules.specs.Limits.{most_jobs}
use Rattle.plan_rules.specs.LineFaults.{LineReading, TextReading, on_line}
use Rattle.plan_rules.specs.Timer.{has_timer, is_timer_name}
use Rattle.plan_rules.specs.TimerEntries.{timer_lines}
use Rattle.plan_check.specs.Timers.{right_job}
use Rattle.plan_runs.proofs.IdleLemmas.{idle_jobs_are_left_out}
use Rattle.plan_runs.proofs.TextLemmas.{active_text_is_read}
use Rattle.plan_runs.specs.Idle.{active_crontab}
use Rattle.plan_texts.specs.Lines.{is_too_large, lines}
use Rattle.plan_tree.specs.Tree.{Held}
use Rattle.agenda_sources.specs.Findings.{source_file}
use Rattle.agenda_sources.specs.declared.Source.{Source}
use Rattle.agenda_machine.specs.Idle.{kept_text}
use Rattle.agenda_machine.specs.Loaded.{kept_source}
use Rattle.agenda_machine.proofs.AddedLemmas.{Add, makes, bars, Fits, add_of, adds_in, crontab_adds, has_place, is_good, is_in, is_used, lines_run, plus, plus_none, source_adds, text_adds, text_run, text_same, timer_adds}

-- all but the idle jobs
abbrev pub active : List Add → List Add
active [] = []
active (makes true job ∷ more) = active more
active (makes false job ∷ more) = makes false job ∷ active more
active (bars name ∷ more) = bars name ∷ active more

active_after : (first more : List Add) → active (first ++ more) ≡ active first ++ active more
active_after [] more = refl
active_after (makes true job ∷ first) more = active_after first more
active_after (makes false job ∷ first) more = ap (λ adds. makes false job ∷ adds) (active_after first more)
active_after (bars name ∷ first) more = ap (λ adds. bars name ∷ adds) (active_after first more)

pub active_of_all :
    (adds : Source → List Add) (sources : List Source) →
    flat_map (λ source. active (adds source)) sources ≡ active (flat_map adds sources)
active_of_all adds [] = refl
active_of_all adds (source ∷ more) =
    ap (λ rest. active (adds source) ++ rest) (active_of_all adds more) ∙ sym (active_after (adds source) (flat_map adds more))

-- ---- nothing is wrong with fewer names

record Less (fewer jobs : List JobParts) : Type 0 where
  free : (name : List ℕ) → list_any (is_named name) jobs ≡ false → list_any (is_named name) fewer ≡ false
  few : length fewer ≤ length jobs

less_by_one : (fewer jobs : List JobParts) (job : JobParts) → Less fewer jobs → Less fewer (jobs ++ job ∷ [])
less_by_one fewer jobs job less = record {
  free = λ name none. less.free name
      (or_parts (list_any (is_named name) jobs) _ (sym (list_any-append (is_named name) jobs (job ∷ [])) ∙ none)).0;
  few = omega (arith, less.few, length-append jobs (job ∷ []));
}

less_with_one : (fewer jobs : List JobParts) (job : JobParts) → Less fewer jobs → Less (fewer ++ job ∷ []) (jobs ++ job ∷ [])
less_with_one fewer jobs job less = record {
  free = λ name none.
      let parts = or_parts (list_any (is_named name) jobs) (list_any (is_named name) (job ∷ []))
      (sym (list_any-append (is_named name) jobs (job ∷ [])) ∙ none) in
      list_any-append (is_named name) fewer (job ∷ [])
      ∙ or_from (list_any (is_named name) fewer) (list_any (is_named name) (job ∷ [])) (less.free name parts.0) parts.1;
  few = omega (arith, less.few, length-append jobs (job ∷ []), length-append fewer (job ∷ []));
}

free_of_fewer :
    (name : List ℕ) (others : List (List ℕ)) (fewer jobs : List JobParts) → Less fewer jobs → is_used name others jobs ≡ false →
    is_used name others fewer ≡ false
free_of_fewer name others fewer jobs less none =
    let parts = or_parts (list_any (bytes_eq name) others) (list_any (is_named name) jobs) none in
    or_from (list_any (bytes_eq name) others) (list_any (is_named name) fewer) parts.0 (less.free name parts.1)

below : (a b c m : ℕ) → b ≤ c → nat_lt (a + c) m ≡ true → nat_lt (a + b) m ≡ true
below a b c m few fits = grind (arith, nat_tests, few, fits)

place_of_fewer :
    (others : List (List ℕ)) (fewer jobs : List JobParts) → Less fewer jobs → has_place others jobs ≡ true →
    has_place others fewer ≡ true
place_of_fewer others fewer jobs less fits = below (length others) (length fewer) (length jobs) most_jobs less.few fits

fits_less :
    (others : List (List ℕ)) (fewer jobs : List JobParts) (adds : List Add) → Less fewer jobs → Fits others jobs adds →
    Fits others fewer (active adds)
fits_less others fewer jobs [] less fits = tt
fits_less others fewer jobs (makes true job ∷ more) less fits =
    fits_less others fewer (jobs ++ job ∷ []) more (less_by_one fewer jobs job less) fits.2
fits_less others fewer jobs (makes false job ∷ more) less fits = (
  free_of_fewer job.name others fewer jobs less fits.0,
  place_of_fewer others fewer jobs less fits.1,
  fits_less others (fewer ++ job ∷ []) (jobs ++ job ∷ []) more (less_with_one fewer jobs job less) fits.2,
)
fits_less others fewer jobs (bars name ∷ more) less fits = (
  free_of_fewer name others fewer jobs less fits.0,
  place_of_fewer others fewer jobs less fits.1,
  fits_less (others ++ name ∷ []) fewer jobs more less fits.2,
)

pub active_fit : (others : List (List ℕ)) (jobs : List JobParts) (adds : List Add) → Fits others jobs adds → Fits others jobs (active adds)
active_fit others jobs adds fits =
    fits_less others jobs jobs adds (record { free = λ name none. none; few = omega arith }) fits

-- ---- a crontab without its idle jobs

one_left :
    (idle : Bool) (read : LineReading JobParts) (rest more : List Add) → rest ≡ active more →
    cond (not idle) (cons_option (add_of idle read) rest) rest ≡ active (cons_option (add_of idle read) more)
one_left true (Ok job) rest more is = is
one_left true (Err cause) rest more is = is
one_left false (Ok job) rest more is = ap (λ adds. makes false job ∷ adds) is
one_left false (Err cause) rest more is = is

adds_by :
    (is : Bool) (idle : ℕ → Bool) (entry : Entry JobParts) (more : List (Entry JobParts)) →
    adds_in idle (cond is (entry ∷ more) more)
    ≡ cond is (cons_option (add_of (idle entry.line) entry.read) (adds_in idle more)) (adds_in idle more)
adds_by true idle entry more = refl
adds_by false idle entry more = refl

left_active :
    (idle : ℕ → Bool) (entries : List (Entry JobParts)) →
    adds_in idle (filter (λ entry. not (idle entry.line)) entries) ≡ active (adds_in idle entries)
left_active idle [] = refl
left_active idle (entry ∷ more) =
    let rest = filter (λ (entry : Entry JobParts). not (idle entry.line)) more in
    adds_by (not (idle entry.line)) idle entry rest
    ∙ one_left (idle entry.line) entry.read (adds_in idle rest) (adds_in idle more) (left_active idle more)

read_same :
    (large utf8 : Bool) (bytes text : List ℕ) →
    on_line 0 (cond large (Err TooLarge) (cond utf8 (Ok bytes) (Err NotUtf8))) ≡ Ok text → bytes ≡ text
read_same true utf8 bytes text is = absurd cc
read_same false true bytes text is = cc
read_same false false bytes text is = absurd cc

-- what is known after a crontab without its idle jobs
abbrev KeptCrontab : KnownJobs → Held → (owner label : List ℕ) → Kind → (bytes : List ℕ) → TextReading (List ℕ) → Type 0
KeptCrontab known held owner label kind bytes read =
    Fits known.others known.jobs (active (crontab_adds held owner label kind bytes read)) →
    after_crontab (with_jobs known true) label kind (text_reading (active_crontab held kind owner bytes read).text)
    ≡ with_jobs (plus known (active (crontab_adds held owner label kind bytes read))) true

text_kept :
    (known : KnownJobs) (held : Held) (owner label : List ℕ) (kind : Kind) (bytes : List ℕ) → text_reading bytes ≡ Ok bytes →
    KeptCrontab known held owner label kind bytes (Ok bytes)
unfolding entries_of_lines
text_kept known held owner label kind bytes is fits =
    let kept = active_crontab held kind owner bytes (Ok bytes) in
    let left = filter_map (line_entry label kind) (enumerate_from 0 (lines kept.text)) in
    let same : adds_in (is_in kept.idle) left ≡ active (crontab_adds held owner label kind bytes (Ok bytes)) =
    ap (adds_in (is_in kept.idle)) (idle_jobs_are_left_out held kind owner label bytes)
    ∙ left_active (is_in kept.idle) (filter_map (line_entry label kind) (enumerate_from 0 (lines bytes))) in
    ap (after_crontab (with_jobs known true) label kind) (active_text_is_read held kind owner bytes bytes is)
    ∙ lines_run known (is_in kept.idle) label kind (enumerate_from 0 (lines kept.text))
    (subst (Fits known.others known.jobs) (sym same) fits)
    ∙ ap (λ adds. with_jobs (plus known adds) true) same

kept_by :
    (known : KnownJobs) (held : Held) (owner label : List ℕ) (kind : Kind) (bytes : List ℕ) (read : TextReading (List ℕ)) →
    text_reading bytes ≡ read → KeptCrontab known held owner label kind bytes read
kept_by known held owner label kind bytes (Ok text) is =
    let same = read_same (is_too_large bytes) (is_utf8 bytes) bytes text is in
    subst (λ text. KeptCrontab known held owner label kind bytes (Ok text)) same
    (text_kept known held owner label kind bytes (is ∙ ap Ok (sym same)))
kept_by known held owner label kind bytes (Err fault) is = λ fits.
    ap (after_crontab (with_jobs known true) label kind) is
    ∙ lines_run known (λ number. false) label kind [] tt

kept_crontab :
    (known : KnownJobs) (held : Held) (owner label : List ℕ) (kind : Kind) (bytes : List ℕ) →
    KeptCrontab known held owner label kind bytes (text_reading bytes)
kept_crontab known held owner label kind bytes = kept_by known held owner label kind bytes (text_reading bytes) refl

-- ---- a file without its idle jobs

timer_active : (is : Bool) (job : JobParts) (name : List ℕ) →
    active (cond is (makes false job ∷ []) (bars name ∷ [])) ≡ cond is (makes false job ∷ []) (bars name ∷ [])
timer_active true job name = refl
timer_active false job name = refl

all_active : (context : TimerContext) (name : List ℕ) (read : TextReading (List (ℕ × List ℕ))) →
    active (timer_adds context name read) ≡ timer_adds context name read
all_active context name (Ok ls) = timer_active (is_timer_name name && has_timer ls) (right_job context name ls) name
all_active context name (Err fault) = refl

kept_text_run :
    (known : KnownJobs) (context : TimerContext) (held : Held) (kind : SourceKind) (name bytes : List ℕ) →
    Fits known.others known.jobs (active (text_adds context held kind name bytes)) →
    after_text context (with_jobs known true) kind name (kept_text held false kind name bytes).text
    ≡ with_jobs (plus known (active (text_adds context held kind name bytes))) true
kept_text_run known context held Crontab name bytes fits = kept_crontab known held name (codes "cron") whose.User bytes fits
kept_text_run known context held System name bytes fits = kept_crontab known held name (codes "system") whose.System bytes fits
kept_text_run known context held CronD name bytes fits = kept_crontab known held name name whose.System bytes fits
kept_text_run known context held Spool name bytes fits = kept_crontab known held name name whose.User bytes fits
kept_text_run known context held Timer name bytes fits =
    let same = all_active context name (timer_lines bytes) in
    text_run known context held Timer name bytes (subst (Fits known.others known.jobs) same fits)
    ∙ ap (λ adds. with_jobs (plus known adds) true) (sym same)

kept_file_by :
    (good : Bool) (known : KnownJobs) (context : TimerContext) (held : Held) (kind : SourceKind) (name bytes : List ℕ) →
    Fits known.others known.jobs (active (cond good (text_adds context held kind name bytes) [])) →
    after_text context (with_jobs known good) kind name (kept_text held false kind name bytes).text
    ≡ with_jobs (plus known (active (cond good (text_adds context held kind name bytes) []))) good
kept_file_by true known context held kind name bytes fits = kept_text_run known context held kind name bytes fits
kept_file_by false known context held kind name bytes fits =
    text_same known context kind name (kept_text held false kind name bytes).text
    ∙ ap (λ (k : KnownJobs). with_jobs k false) (plus_none known)

pub kept_run :
    (context : TimerContext) (held : Held) (known : KnownJobs) (source : Source) →
    Fits known.others known.jobs (active (source_adds context held source)) →
    after_file context known (source_file (kept_source held false source))
    ≡ with_jobs (plus known (active (source_adds context held source))) (is_good source)
kept_run context held known source fits =
    kept_file_by (is_good source) known context held source.kind source.name source.bytes fits
