-- If nothing is skipped, a request that keeps going ends as one that doesn't.
use Rattle.std.proofs.Common.{◌≡◌, ◌≢◌, Bool, true, false, ℕ, List, [], ◌∷◌, Option, None, Some, Result, Ok, Err, refl, ap, sym, subst, ◌∙◌}
use Rattle.plan_clock.specs.declared.row.Change.{Change}
use Rattle.agenda_sources.specs.declared.SourcePath.{SourcePath}
use Rattle.agenda_sources.specs.declared.Found.{Found}
use Rattle.agenda_sources.specs.declared.Source.{Source}
use Rattle.agenda_sources.specs.declared.TimeZones.{TimeZones}
use Rattle.agenda_sources.specs.Findings.{kept_jobs, sources_errors}
use Rattle.agenda_sources.specs.Sources.{jobs_reading}
use Rattle.agenda_arguments.specs.declared.Ask.{Ask}
use Rattle.agenda_arguments.specs.declared.Ask.TheVariants.{Next, Plan, Upcoming, Quiet, Changes, Check, Describe, DescribeJobs, Steps, Explain, Machine, MachineNext, MachineDescribe}
use Rattle.agenda_arguments.specs.declared.JobsRequest.{JobsRequest}
use Rattle.agenda_arguments.specs.declared.ZonesRequest.{ZonesRequest}
use Rattle.agenda_faults.specs.declared.faults.Failure.{Failure}
use Rattle.agenda_faults.specs.declared.faults.Failure.TheVariants.{Run}
use Rattle.agenda_faults.specs.declared.faults.RunFault.{RunFault}
use Rattle.agenda_faults.specs.declared.faults.RunFault.TheVariants.{NoMemory}
use Rattle.agenda_faults.specs.Faults.{fault_of_sources}
use Rattle.agenda_commands.specs.declared.Goal.{Goal}
use Rattle.agenda_commands.specs.Command.{step}
use Rattle.agenda_commands.specs.Goal.{AnswersGoal, finds_in}
use Rattle.plan_rules.specs.Job.{JobParts}
use Rattle.agenda_commands.specs.Prepare.{jobs_or}
use Rattle.agenda_inputs.specs.declared.Tried.{Tried}
use Rattle.agenda_inputs.specs.EventZones.{found_by, found_zones, is_given, zones_by}
use Rattle.agenda_inputs.specs.Files.{Held}
use Rattle.agenda_answers.specs.Outcome.{Outcome, answer_of, has_found, found_status, outcome_by, skipped_status}
use Rattle.agenda_answers.specs.Program.{ChangesNothing, SkipsNothing}
use Rattle.agenda_answers.specs.Requests.{request_of, stopping}
use Rattle.agenda_inputs.specs.Sources.{input_of, tries_of, with_first}
use Rattle.agenda_inputs.specs.Steps.{Step, gives, stops, goes, ◌>>=◌}

-- ---- steps that only fail if an allocation does

abbrev pub OnlyMemory : {X : Type 0} → Step X → Type 0
OnlyMemory step = (failure : Failure) → step (Err failure) → failure ≡ Run NoMemory

both_memory :
    {X Y : Type 0} {step : Step X} {next : X → Step Y} →
    OnlyMemory step → ((x : X) → OnlyMemory (next x)) → OnlyMemory (step >>= next)
both_memory first second failure (stops found is same) = let one : failure ≡ found = cc in one ∙ first found is
both_memory first second failure (goes x is ends) = second x failure ends

never : {X : Type 0} (x : X) → OnlyMemory (gives x)
never x failure is = absurd cc

tries_memory : (held : Held) (paths : List SourcePath) → OnlyMemory (tries_of true held paths)
unfolding tries_of
tries_memory held [] = never _
tries_memory held (given ∷ paths) = both_memory (λ failure is. is) (λ source. both_memory (tries_memory held paths) (λ others. never _))

zone_memory : (is_given : Bool) (held : Held) (clock : List Change) (name : List ℕ) → OnlyMemory (found_by is_given held clock name)
zone_memory true held clock name failure is = is
zone_memory false held clock name failure is = is

found_memory :
    (held : Held) (given : Option (List ℕ)) (clock : List Change) (names : List (List ℕ)) → OnlyMemory (found_zones held given clock names)
unfolding found_zones
found_memory held given clock [] = never _
found_memory held given clock (name ∷ names) =
    both_memory (zone_memory (is_given given name) held clock name)
    (λ zone. both_memory (found_memory held given clock names) (λ zones. never _))

zones_memory :
    (held : Held) (given : Option (List ℕ)) (clock : List Change) (names : Option (List (List ℕ))) →
    OnlyMemory (zones_by held given clock names)
zones_memory held given clock None = never _
zones_memory held given clock (Some names) =
    both_memory (both_memory (found_memory held given clock names) (λ found. never _)) (λ named. never _)

-- ---- the sources

-- if all files can be read, so can the sources
all_read :
    (held : Held) (paths : List SourcePath) (end : Tried) → tries_of true held paths (Ok end) → end.unread ≡ [] →
    tries_of false held paths (Ok end)
unfolding tries_of
all_read held [] end is none = is
all_read held (given ∷ paths) end (stops failure _ same) none = absurd cc
all_read held (given ∷ paths) end (goes None is (goes others are same)) none =
    let first : end ≡ with_first given None others = cc in
    let no_path : given ∷ others.unread ≡ [] = sym (ap (λ t. t.unread) first) ∙ none in absurd cc
all_read held (given ∷ paths) end (goes (Some source) is (goes others are same)) none =
    let first : end ≡ with_first given (Some source) others = cc in
    goes (Some source) is (goes others (all_read held paths others are (sym (ap (λ t. t.unread) first) ∙ none)) same)
all_read held (given ∷ paths) end (goes source is (stops failure _ same)) none = absurd cc

input_read :
    (held : Held) (request : ZonesRequest) (paths : List SourcePath) (tried : Tried) (zones : TimeZones) →
    input_of true held request paths (Ok (tried, zones)) → tried.unread ≡ [] → input_of false held request paths (Ok (tried, zones))
input_read held request paths tried zones (goes clock zone (goes found read (goes named are same))) none =
    let pair : ◌≡◌ {A = Tried × TimeZones} (tried, zones) (found, named) = cc in
    goes clock zone (goes found (all_read held paths found read (sym (ap (λ p. p.0.unread) pair) ∙ none)) (goes named are same))
input_read held request paths tried zones (goes clock zone (goes found read (stops failure _ same))) none = absurd cc
input_read held request paths tried zones (goes clock zone (stops failure _ same)) none = absurd cc
input_read held request paths tried zones (stops failure _ same) none = absurd cc

-- if an allocation doesn't fail, only the zone can be rejected
input_fails :
    (held : Held) (request : ZonesRequest) (paths : List SourcePath) (failure : Failure) →
    input_of true held request paths (Err failure) → failure ≢ Run NoMemory → input_of false held request paths (Err failure)
input_fails held request paths failure (stops found zone same) other = stops found zone same
input_fails held request paths failure (goes clock zone more) other =
    absurd (other (both_memory (tries_memory held paths) (λ tried. both_memory (both_memory (λ found is. is)
    (zones_memory held request.zone clock)) (λ zones. never _)) failure more))

-- ---- the law

-- the law of agenda_sources: without errors all jobs are kept
abbrev pub KeepsAll : Type 0
KeepsAll = (zones : TimeZones) → (sources : List Source) → sources_errors zones sources ≡ [] →
    jobs_reading zones sources ≡ Ok (kept_jobs zones sources)

-- the outcome for jobs with these errors
abbrev pub outcome_with : Goal → Tried → Result (List ℕ) RunFault → Result (List JobParts) RunFault → List Found → Outcome
outcome_with goal tried answer jobs errors = record {
  unread = tried.unread;
  paths = tried.paths;
  errors = errors;
  answer = answer;
  status = found_status (has_found answer (finds_in goal jobs)) (skipped_status tried.unread errors);
}

same_outcome :
    (law : KeepsAll) (held : Held) (goal : Goal) (jobs : JobsRequest) (end : Result Outcome Failure) → outcome_by true held goal jobs end →
    SkipsNothing end → outcome_by false held goal jobs end
same_outcome law held goal jobs (Ok kept)
    (goes (tried, zones) read (goes format made (goes (errors, left) found (goes answer is same)))) none =
    let all : kept ≡ outcome_with goal tried answer (jobs_or left zones tried.sources) errors = cc in
    let no_errors : errors ≡ [] = sym (ap (λ k. k.errors) all) ∙ none.1 in
    let all_kept : jobs_reading zones tried.sources ≡ Ok (kept_jobs zones tried.sources) =
    law zones tried.sources (sym (ap (λ pair. pair.0) found) ∙ no_errors) in
    let same_jobs : jobs_or left zones tried.sources ≡ jobs_or None zones tried.sources =
    ap (λ pair. jobs_or pair.1 zones tried.sources) found ∙ sym (ap (step fault_of_sources) all_kept) in
    goes (tried, zones) (input_read held jobs.zones jobs.sources tried zones read (sym (ap (λ k. k.unread) all) ∙ none.0))
    (goes format made (goes ([], None) refl (goes answer (subst (λ js. answer_of (AnswersGoal format) goal js (Ok answer)) same_jobs is)
    (ap Ok (all ∙ (λ i. outcome_with goal tried answer (same_jobs i) (no_errors i)))))))
same_outcome law held goal jobs (Ok kept) (goes input read (goes format made (goes left found (stops failure _ same)))) none = absurd cc
same_outcome law held goal jobs (Ok kept) (goes input read (goes format made (stops failure _ same))) none = absurd cc
same_outcome law held goal jobs (Ok kept) (goes input read (stops failure _ same)) none = absurd cc
same_outcome law held goal jobs (Ok kept) (stops failure _ same) none = absurd cc
same_outcome law held goal jobs (Err failure) (stops found read same) other =
    let one : found ≡ failure = cc in
    stops failure
    (input_fails held jobs.zones jobs.sources failure (subst (λ f. input_of true held jobs.zones jobs.sources (Err f)) one read) other) refl
same_outcome law held goal jobs (Err failure) (goes (tried, zones) read more) other =
    absurd (other (both_memory (λ found is. is.0) (λ format. both_memory (λ found is. is) (λ left. both_memory (λ found is. is.0)
    (λ answer. never _))) failure more))

pub changes_nothing : KeepsAll → (held : Held) → (goal : Goal) → (jobs : JobsRequest) → ChangesNothing held goal jobs
changes_nothing law held goal jobs end by none status out err reports = (end, same_outcome law held goal jobs end by none, reports)

-- times are rejected in the same way
pub times_rejected : (ask : Ask) (failure : Failure) → request_of ask (Err failure) → request_of (stopping ask) (Err failure)
times_rejected (Next starts) failure is = is
times_rejected (Plan plan view) failure (stops found (stops first is same) again) = stops found (stops first is same) again
times_rejected (Plan plan view) failure (stops found (goes span is same) again) = absurd cc
times_rejected (Plan plan view) failure (goes planning is same) = absurd cc
times_rejected (Upcoming after jobs) failure (stops found is same) = stops found is same
times_rejected (Upcoming after jobs) failure (goes moment is same) = absurd cc
times_rejected (Quiet plan least) failure (stops found (stops first is same) again) = stops found (stops first is same) again
times_rejected (Quiet plan least) failure (stops found (goes span is same) again) = absurd cc
times_rejected (Quiet plan least) failure (goes planning is same) = absurd cc
times_rejected (Changes changes) failure is = absurd cc
times_rejected (Check zones sources policy json) failure is = is
times_rejected (Describe rule zones json) failure is = is
times_rejected (DescribeJobs jobs) failure is = absurd cc
times_rejected (Steps file) failure is = is
times_rejected (Explain code) failure is = is
times_rejected (Machine machine) failure is = is
times_rejected (MachineNext next) failure is = is
times_rejected (MachineDescribe rule json) failure is = is
