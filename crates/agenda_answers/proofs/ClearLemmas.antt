-- What follows if `clear` ends with status 0.
use Rattle.std.proofs.Common.{◌≡◌, ◌∙◌, ℕ, Bool, true, false, List, [], ◌∷◌, Option, None, Some, Result, Ok, Err, ap, arith, length, refl, sym, subst}
use Rattle.std.specs.Prelude.{◌==◌, if◌then◌else◌, is_some, nat_lt}
use Rattle.std.proofs.lemmas.Bool.{true≢false}
use Rattle.std.proofs.lemmas.Bool.Decides.{nat_tests}
use Rattle.plan_clear.proofs.LeastLemmas.{nothing_starts}
use Rattle.plan_collect.specs.declared.CollectFault.TheVariants as collect
use Rattle.plan_collect.specs.declared.PlanFault.TheVariants as plan
use Rattle.plan_collect.specs.declared.PlanView.TheVariants.{First}
use Rattle.plan_rules.specs.Delays.{counted}
use Rattle.plan_rules.specs.Job.{JobParts}
use Rattle.plan_write.specs.declared.Format.{Format}
use Rattle.agenda_commands.specs.Goal.{AnswersGoal, checked_jobs, finds_in, finds_any, first_of}
use Rattle.agenda_commands.specs.Prepare.{jobs_if, jobs_or}
use Rattle.agenda_commands.specs.declared.Goal.TheVariants.{Plan}
use Rattle.agenda_commands.specs.declared.Planning.{Planning}
use Rattle.agenda_faults.specs.declared.faults.RunFault.{RunFault}
use Rattle.agenda_faults.specs.declared.faults.RunFault.TheVariants as run
use Rattle.agenda_inputs.specs.Steps.{goes, stops}
use Rattle.agenda_sources.specs.Findings.{is_all_clean}
use Rattle.agenda_sources.specs.declared.Found.{Found}
use Rattle.agenda_sources.specs.declared.Source.{Source}
use Rattle.agenda_sources.specs.declared.SourcePath.{SourcePath}
use Rattle.agenda_sources.specs.declared.TimeZones.{TimeZones}
use Rattle.agenda_answers.specs.ClearLaws.{ClearIsSafe, MachineClearIsSafe, NothingStarts}
use Rattle.agenda_answers.proofs.KeepingLaws.{outcome_with}
use Rattle.agenda_answers.specs.Machine.{jobs_status, machine_status, naming_limit, outcome_of}
use Rattle.agenda_answers.specs.Outcome.{Outcome, found_status, has_found, kept_of, skipped_status}

-- the status is that of nothing found and nothing skipped
none_if : (is_done : Bool) (status : ℕ) → is_done ≡ (status == 0) → ◌≡◌ {A = ℕ} (if is_done then 1 else status) 0 → ⊥
none_if true status same is = absurd cc
none_if false status same is = true≢false (sym (same ∙ ap (λ (n : ℕ). n == 0) is))

none_found : (finds : Bool) (status : ℕ) → found_status finds status ≡ 0 → (finds ≡ false) × (status ≡ 0)
none_found true status is = absurd (none_if (status == 0) status refl is)
none_found false status is = (refl, is)

none_skipped : (unread : List SourcePath) (errors : List Found) → skipped_status unread errors ≡ 0 → (unread ≡ []) × (errors ≡ [])
none_skipped [] [] is = (refl, refl)
none_skipped [] (error ∷ more) is = absurd cc
none_skipped (path ∷ more) errors is = absurd cc

-- without a first entry nothing starts
nothing_from :
    (jobs : List JobParts) (planning : Planning) (first : Option (ℕ × ℕ)) → first_of jobs planning ≡ first → is_some first ≡ false →
    NothingStarts jobs planning.span
nothing_from jobs planning None none is = λ number start second job. nothing_starts jobs planning.span number start second job none
nothing_from jobs planning (Some entry) none is = absurd cc

-- a text is the answer for jobs
jobs_of_text :
    (format : Format) (planning : Planning) (jobs : Result (List JobParts) RunFault) (text : List ℕ) →
    AnswersGoal format (Plan planning First) (checked_jobs (Plan planning First) jobs) (Ok text) →
    finds_in (Plan planning First) jobs ≡ false →
    (left : List JobParts) × (jobs ≡ Ok left) × NothingStarts (counted planning.delays left) planning.span
jobs_of_text format planning (Ok left) text is none =
    (left, refl, nothing_from (counted planning.delays left) planning (first_of (counted planning.delays left) planning) refl none)
jobs_of_text format planning (Err fault) text is none = absurd cc

-- the jobs that are kept
same_kept :
    (keeps_going : Bool) (zones : TimeZones) (sources : List Source) (errors : List Found) (kept : Option (List JobParts)) →
    kept_of keeps_going zones sources (Ok (errors, kept)) → kept ≡ jobs_if keeps_going zones sources
same_kept true zones sources errors kept is = ap (λ pair. pair.1) is
same_kept false zones sources errors kept is =
    let pair : ◌≡◌ {A = List Found × Option (List JobParts)} (errors, kept) ([], None) = cc in ap (λ both. both.1) pair

pub clear_safe : ClearIsSafe
clear_safe keeps_going held planning request outcome text
    (goes (tried, zones) read (goes format made (goes (errors, kept) found (goes answer is same)))) answered done =
    let jobs = jobs_or kept zones tried.sources in
    let all : outcome ≡ outcome_with (Plan planning First) tried answer jobs errors = cc in
    let own : answer ≡ Ok text = sym (ap (λ o. o.answer) all) ∙ answered in
    let (none, clean) = none_found (has_found answer (finds_in (Plan planning First) jobs)) (skipped_status tried.unread errors)
    (sym (ap (λ o. o.status) all) ∙ done) in
    let (unread, no_errors) = none_skipped tried.unread errors clean in
    let (left, are, clear) = jobs_of_text format planning jobs text (rw own at is.1) (rw own at none) in (
      ap (λ o. o.unread) all ∙ unread,
      ap (λ o. o.errors) all ∙ no_errors,
      record {
        tried = tried;
        zones = zones;
        jobs = left;
        read = read;
        are = subst (λ js. jobs_or js zones tried.sources ≡ Ok left) (same_kept keeps_going zones tried.sources errors kept found) are;
        clear = clear;
      },
    )
clear_safe keeps_going held planning request outcome text (goes input read (goes format made (goes kept found (stops failure _ same)))) answered done =
    absurd cc
clear_safe keeps_going held planning request outcome text (goes input read (goes format made (stops failure _ same))) answered done = absurd cc
clear_safe keeps_going held planning request outcome text (goes input read (stops failure _ same)) answered done = absurd cc
clear_safe keeps_going held planning request outcome text (stops failure _ same) answered done = absurd cc

-- ---- a machine

-- a text is no error whose words name the limit
text_in_words : (limit : ℕ) (answer : Result (List ℕ) RunFault) (text : List ℕ) → naming_limit limit answer ≡ Ok text → answer ≡ Ok text
text_in_words limit (Ok same) text is = is
text_in_words limit (Err (run.Plan (plan.Collect collect.TooMany))) text is = absurd cc
text_in_words limit (Err other) text is = absurd cc

-- nothing is unknown if the status says so
no_count : (is_some : Bool) → ◌≡◌ {A = ℕ} (if is_some then 4 else 0) 0 → is_some ≡ false
no_count true is = absurd (omega arith)
no_count false is = refl

-- the status of an answer that finds nothing, where nothing is unknown
none_unknown : {A : Type 0} (finds : Bool) (status : ℕ) (unknown : List A) → jobs_status true finds status (length unknown) ≡ 0 →
    (finds ≡ false) × (unknown ≡ [])
none_unknown true status unknown is = absurd (omega arith)
none_unknown false status [] is = (refl, refl)
none_unknown false status (one ∷ more) is =
    let none : nat_lt 0 (length (one ∷ more)) ≡ false = no_count _ is in absurd (grind (arith, nat_tests))

pub machine_safe : MachineClearIsSafe
machine_safe tree dir machine paths errors unknown form planning jobs outcome remark text
    (goes answer is (goes status stated (goes said computed same))) answered done =
    let finds = has_found answer (finds_any (Plan planning First) jobs) in
    let clean = machine_status machine (is_all_clean errors) in
    let pair : ◌≡◌ {A = Outcome × Option (List ℕ)} (outcome, remark)
    (outcome_of paths errors status (naming_limit planning.sizes.limit answer), said) = cc in
    let own : answer ≡ Ok text = text_in_words planning.sizes.limit answer text (sym (ap (λ both. both.0.answer) pair) ∙ answered) in
    let by : status ≡ jobs_status true finds clean (length unknown) = cc in
    let (none, no_unknown) = none_unknown finds clean unknown (sym by ∙ (sym (ap (λ both. both.0.status) pair) ∙ done)) in
    let first : finds_any (Plan planning First) jobs ≡ false = rw own at none in (
      no_unknown,
      nothing_from (counted planning.delays jobs) planning (first_of (counted planning.delays jobs) planning) refl first,
    )
machine_safe tree dir machine paths errors unknown form planning jobs outcome remark text
    (goes answer is (goes status stated (stops failure _ same))) answered done =
    absurd cc
machine_safe tree dir machine paths errors unknown form planning jobs outcome remark text (goes answer is (stops failure _ same)) answered done =
    absurd cc
machine_safe tree dir machine paths errors unknown form planning jobs outcome remark text (stops failure _ same) answered done = absurd cc
