-- The answer to a question about a machine. All of it is our choice (agenda).
use Rattle.std.specs.Prelude.{◌≡◌, ◌⊎◌, ℕ, Bool, true, false, not, ◌&&◌, ◌||◌, ◌==◌, nat_lt, if◌then◌else◌, List, [], ◌++◌, codes, is_ok, length, take, Option, None, Some, Result, Ok, Err, unwrap_or}
use Rattle.std.specs.Fmt.{decimal}
use Rattle.std.specs.Io.KnownBytes.{Appends, Keeps}
use Rattle.plan_clock.specs.declared.row.Change.{Change}
use Rattle.plan_rules.specs.Job.{JobParts}
use Rattle.plan_streams.specs.Stream.{BreaksOff}
use Rattle.plan_write.specs.declared.JobFile.{JobFile}
use Rattle.plan_services.specs.Accuracy.{default_accuracy}
use Rattle.plan_tree.specs.Tree.{Held as TreeHeld, below, is_directory, path_below}
use Rattle.plan_tree.specs.declared.tree.Node.{Node}
use Rattle.plan_tree.specs.declared.tree.Node.TheVariants.{Missing}
use Rattle.plan_machine.specs.Machine.{AreTooManyUnits, IsMachine}
use Rattle.plan_machine.specs.declared.machine.Machine.{Machine}
use Rattle.plan_machine.specs.declared.NotPlanned.{NotPlanned}
use Rattle.agenda_arguments.specs.declared.MachineRequest.{MachineRequest}
use Rattle.agenda_arguments.specs.declared.MachineCheck.{MachineCheck}
use Rattle.agenda_arguments.specs.declared.MachineDescribe.{MachineDescribe}
use Rattle.agenda_arguments.specs.declared.MachineJobs.{MachineJobs}
use Rattle.agenda_arguments.specs.declared.MachineGoal.{MachineGoal}
use Rattle.agenda_arguments.specs.declared.MachineGoal.TheVariants as asked
use Rattle.agenda_arguments.specs.declared.MachineQuestion.{MachineQuestion}
use Rattle.agenda_arguments.specs.declared.MachineQuestion.TheVariants as question
use Rattle.agenda_faults.specs.declared.faults.Failure.{Failure}
use Rattle.agenda_faults.specs.declared.faults.Failure.TheVariants.{NoSystem, NotDirectory, TooManyUnits}
use Rattle.agenda_faults.specs.declared.faults.RunFault.{RunFault}
use Rattle.agenda_faults.specs.declared.faults.RunFault.TheVariants as run
use Rattle.plan_collect.specs.declared.CollectFault.TheVariants as collect
use Rattle.plan_collect.specs.declared.PlanFault.TheVariants as plan
use Rattle.agenda_commands.specs.Check.{reported}
use Rattle.agenda_commands.specs.Describe.{description_output}
use Rattle.agenda_commands.specs.Form.{AnswersForm, origin_of}
use Rattle.agenda_commands.specs.Remark.{remark_of}
use Rattle.agenda_commands.specs.declared.Form.{Form}
use Rattle.agenda_commands.specs.declared.Form.TheVariants as form
use Rattle.agenda_commands.specs.Goal.{finds_any}
use Rattle.agenda_commands.specs.declared.Goal.{Goal}
use Rattle.agenda_commands.specs.declared.Goal.TheVariants as goal
use Rattle.plan_collect.specs.declared.PlanView.TheVariants as view
use Rattle.agenda_faults.specs.Status.{done_status, failed_status, rejected_status, unknown_status, usage_status}
use Rattle.agenda_findings.specs.Findings.{check_text}
use Rattle.agenda_findings.specs.Skipped.{skipped_text}
use Rattle.agenda_machine.specs.JobFiles.{files_of_jobs}
use Rattle.agenda_machine.specs.Listing.{sources_text}
use Rattle.agenda_machine.specs.Loaded.{idle_jobs, planned_sources, unplanned_with_idle}
use Rattle.agenda_machine.specs.Places.{located, paths_of, sources_of}
use Rattle.agenda_machine.specs.Reports.{is_incomplete, is_reported, lines_of}
use Rattle.agenda_policy.specs.declared.Policy.{Policy}
use Rattle.agenda_sources.specs.Findings.{is_all_clean, kept_jobs, sources_errors}
use Rattle.agenda_sources.specs.ZoneNames.{zone_names}
use Rattle.agenda_sources.specs.declared.Found.{Found}
use Rattle.agenda_sources.specs.declared.Source.{Source}
use Rattle.agenda_sources.specs.declared.SourcePath.{SourcePath}
use Rattle.agenda_sources.specs.declared.TimeZones.{TimeZones}
use Rattle.agenda_inputs.specs.declared.ZoneClock.{ZoneClock}
use Rattle.agenda_answers.specs.declared.machine_answer.Printout.{Printout}
use Rattle.agenda_answers.specs.declared.machine_answer.Printout.TheVariants as printout
use Rattle.agenda_answers.specs.Answer.{Printed, StreamChange}
use Rattle.agenda_answers.specs.Choice.{left_in}
use Rattle.agenda_inputs.specs.EventZones.{zones_by}
use Rattle.agenda_inputs.specs.Files.{Held, most_read}
use Rattle.agenda_answers.specs.Describe.{described_as}
use Rattle.agenda_answers.specs.Formats.{form_made, unnamed_zone}
use Rattle.agenda_answers.specs.Host.{KnownHost}
use Rattle.agenda_inputs.specs.MachineFiles.{machine_files}
use Rattle.agenda_answers.specs.MachineGoal.{goal_at}
use Rattle.agenda_inputs.specs.MachineZone.{KnownTree, fails_with, looks, machine_clock}
use Rattle.agenda_answers.specs.Outcome.{ExitsWith, Outcome, Reports, answer_of, has_found, found_status}
use Rattle.agenda_machine.specs.Root.{dir_of, root_of}
use Rattle.agenda_inputs.specs.Steps.{Step, computes, gives, ◌>>=◌}

-- ---- the root

-- the tree below a root
abbrev pub tree_below : KnownTree → (root : List ℕ) → KnownTree
tree_below tree root = record { is_known = tree.is_known; held = below root tree.held }

-- a root has a path, which is that of a directory (agenda)
abbrev pub is_root : TreeHeld → (dir : List ℕ) → Bool
is_root held dir = not (length dir == 0) && is_directory (held.node (path_below (root_of dir) []))

abbrev pub is_there : Node → Bool
is_there Missing = false
is_there node = true

-- a disk that isn't mounted has neither
abbrev pub has_system : TreeHeld → Bool
has_system held = is_there (held.node (codes "etc")) || is_there (held.node (codes "usr"))

-- a root has to be a directory with a system
abbrev pub root_if : (is has : Bool) → (dir : List ℕ) → Step (Unit {0})
root_if true true dir = gives tt
root_if true false dir = fails_with (NoSystem dir)
root_if false has dir = fails_with (NotDirectory dir)

-- ---- what is found

-- a machine whose boot reaches too many units is rejected
abbrev pub machine_if : Option Machine → (dir : List ℕ) → Step Machine
machine_if None dir = fails_with (TooManyUnits dir)
machine_if (Some machine) dir = gives machine

-- what is found below a root
abbrev pub found_below : KnownTree → (all : Bool) → Option Machine → Type 0
found_below tree all None = AreTooManyUnits tree.held
found_below tree all (Some machine) = IsMachine tree.held all most_read machine

-- what is found on a machine whose root is a directory
abbrev pub machine_below : KnownTree → (all : Bool) → (dir : List ℕ) → Step Machine
machine_below tree all dir = do
  found ← looks (tree_below tree (root_of dir)) (found_below (tree_below tree (root_of dir)) all)
  machine_if found dir

-- what is found on the machine whose root has this path, if that is a directory with a system
abbrev pub machine_of : KnownTree → (all : Bool) → (dir : List ℕ) → Step Machine
machine_of tree all dir = do
  is ← looks tree (λ is. is ≡ is_root tree.held dir)
  has ← looks tree (λ has. has ≡ has_system (below (root_of dir) tree.held))
  done ← root_if is has dir
  machine_below tree all dir

-- ---- the questions

-- what follows what is reported: a text with its exit status, or the answer for jobs and what is said about it, or errors of which the
-- first stops it, and whether it was whether a span is clear
pub data Rest : Type 0 where
  prints : Printed → Rest
  plans : Outcome → (remark : Option (List ℕ)) → Rest
  stops_at_first : (paths : List SourcePath) → (errors : List Found) → (is_clear : Bool) → Rest

-- what is reported of a machine, and whether that is anything; and what follows
pub record Shown : Type 0 where
  pub reports : List ℕ
  pub has_reports : Bool
  pub rest : Rest

-- the lines of what is reported of a machine, by what isn't planned there
abbrev pub machine_reports : (dir : List ℕ) → Machine → (unplanned : List NotPlanned) → (is_zone_unknown : Bool) → List ℕ
machine_reports dir machine unplanned is_zone_unknown =
    lines_of (root_of dir) dir machine.skipped.items unplanned machine.lacks_cron_daemon is_zone_unknown

-- whether there are any
abbrev pub has_reports : Machine → (unplanned : List NotPlanned) → (is_zone_unknown : Bool) → Bool
has_reports machine unplanned is_zone_unknown =
    is_reported machine.skipped.items unplanned machine.lacks_cron_daemon is_zone_unknown

-- the exit status: that of an error if one is found, or if something can't be read
abbrev pub machine_status : Machine → (is_clean : Bool) → ℕ
machine_status machine is_clean = if is_clean && not (is_incomplete machine.skipped.items) then done_status else rejected_status

-- a machine's sources
abbrev pub sources_rest : (dir : List ℕ) → (json : Bool) → Machine → Rest
sources_rest dir json machine =
    prints (record { text = sources_text json (root_of dir) machine.sources.items; status = machine_status machine true })

-- what is wrong with them, by the paths of their files
abbrev pub checked_rest : (json : Bool) → Machine → (paths : List SourcePath) → List Found → Rest
checked_rest json machine paths found =
    prints (record { text = check_text json paths found; status = machine_status machine (is_all_clean found) })

-- the same
abbrev pub findings_rest : (dir : List ℕ) → (json : Bool) → Machine → List Found → Rest
findings_rest dir json machine found = checked_rest json machine (paths_of json (root_of dir) machine.sources.items) found

-- what is printed
abbrev pub rest_of : (dir : List ℕ) → Machine → Printout → Rest
rest_of dir machine (printout.Sources json) = sources_rest dir json machine
rest_of dir machine (printout.Findings paths found json) = checked_rest json machine paths found.items
rest_of dir machine (printout.Jobs outcome remark) = plans outcome remark
rest_of dir machine (printout.Stopped skipped is_clear) = stops_at_first skipped.paths skipped.errors.items is_clear

-- what is shown of a machine, by what isn't planned there
abbrev pub shown_with : (dir : List ℕ) → Machine → (unplanned : List NotPlanned) → (is_zone_unknown : Bool) → Rest → Shown
shown_with dir machine unplanned is_zone_unknown rest = record {
  reports = machine_reports dir machine unplanned is_zone_unknown;
  has_reports = has_reports machine unplanned is_zone_unknown;
  rest = rest;
}

-- `sources`: the zone isn't read
abbrev pub shows_sources : (dir : List ℕ) → (json : Bool) → Machine → Step Shown
shows_sources dir json machine = gives (shown_with dir machine machine.unplanned.items false (sources_rest dir json machine))

-- the findings in the sources of a machine that are reported under a policy, each with the path and the line of the file that it is
-- in. Comments count as they are in the text that is read
abbrev pub found_in : Policy → Machine → TimeZones → List Source → List Found
found_in policy machine zones sources = located machine.sources.items (reported policy zones sources)

-- the errors in the sources of a machine, likewise
abbrev pub errors_in : Machine → TimeZones → List Source → List Found
errors_in machine zones sources = located machine.sources.items (sources_errors zones sources)

-- the same zones, if timers that set no accuracy have this one
abbrev pub with_accuracy : (accuracy : ℕ) → TimeZones → TimeZones
with_accuracy accuracy zones = record zones { timers = record zones.timers { accuracy = accuracy } }

-- the time zones of the rules of a machine, by the clock of its zone, and the accuracy of its timers. The zones of events are read from
-- its files
unfoldable pub machine_zones : Held → KnownTree → (clock : List Change) → List Source → Step TimeZones
machine_zones held tree clock sources = do
  accuracy ← looks tree (λ accuracy. accuracy ≡ default_accuracy tree.held)
  names ← computes (zone_names sources)
  zones ← zones_by (machine_files held tree) None clock (Some names)
  gives (with_accuracy accuracy zones)

-- `check`: the zone is read first, and then the zones of events
abbrev pub shows_findings : Held → KnownTree → (dir : List ℕ) → MachineCheck → Machine → (unplanned : List NotPlanned) → Step Shown
shows_findings held tree dir check machine unplanned = do
  clock ← machine_clock held tree check.zone
  zones ← machine_zones held tree clock.clock (sources_of machine.sources.items)
  computes (shown_with dir machine unplanned clock.is_unknown
      (findings_rest dir check.json machine (found_in check.policy machine zones (sources_of machine.sources.items))))

-- an answer in this form has the files of its jobs, or their scripts: a table, lines in JSON, and the list of scripts
abbrev pub needs_files : Form → Goal → Bool
needs_files (form.Table table) goal = true
needs_files (form.Lines format) (goal.Scripts after) = true
needs_files (form.Lines format) goal = format.json

-- the files of jobs, if they are needed
abbrev pub files_if : (needed : Bool) → (files : List JobFile) → Option (List JobFile)
files_if true files = Some files
files_if false files = None

-- the answer for jobs, in this form, with the files that they come from and their scripts
abbrev pub answers_with_files :
    KnownTree → (dir : List ℕ) → Machine → Form → Goal → (kept : List JobParts) → Step (Result (List ℕ) RunFault)
answers_with_files tree dir machine form goal kept = do
  files ← looks tree (λ files.
      files ≡ files_if (needs_files form goal) (files_of_jobs tree.held (root_of dir) machine.sources.items kept))
  answer_of (AnswersForm files form) goal (Ok kept)

-- an answer; if it has too many starts, the error names the limit
abbrev pub naming_limit : (limit : ℕ) → Result (List ℕ) RunFault → Result (List ℕ) RunFault
naming_limit limit (Err (run.Plan (plan.Collect collect.TooMany))) = Err (run.TooManyStarts limit)
naming_limit limit answer = answer

-- the same for a plan; without a plan there is no limit
abbrev pub in_words : Goal → Result (List ℕ) RunFault → Result (List ℕ) RunFault
in_words (goal.Plan planning view) answer = naming_limit planning.sizes.limit answer
in_words (goal.Quiet planning least) answer = naming_limit planning.sizes.limit answer
in_words (goal.Changes planning before) answer = naming_limit planning.sizes.limit answer
in_words (goal.Upcoming after delays) answer = answer
in_words (goal.Scripts after) answer = answer

-- the answer for jobs, without the errors that are skipped
abbrev pub outcome_of : (paths : List SourcePath) → List Found → (status : ℕ) → Result (List ℕ) RunFault → Outcome
outcome_of paths errors status answer = record { unread = []; paths = paths; errors = errors; answer = answer; status = status }

-- an error stops a strict answer
abbrev pub is_stopped : (strict : Bool) → List Found → Bool
is_stopped strict errors = strict && not (length errors == 0)

abbrev pub said_of : Result (List ℕ) RunFault → (remark : Option (List ℕ)) → Option (List ℕ)
said_of (Ok text) remark = remark
said_of (Err fault) remark = None

-- it is asked whether a span is clear
abbrev pub is_clear : Goal → Bool
is_clear (goal.Plan planning view.First) = true
is_clear goal = false

-- the exit status of an answer, by that without what it finds. If it was asked whether a span is clear, what is rejected or can't be read
-- is unknown: then it is 1 if a planned job may start, 4 if none may, but something is unknown, and 0 otherwise
abbrev pub jobs_status : (is_clear finds : Bool) → (status unknown : ℕ) → ℕ
jobs_status false finds status unknown = found_status finds status
jobs_status true finds status unknown =
    if finds then rejected_status else (if nat_lt 0 unknown then unknown_status else done_status)

-- the words for so many jobs
abbrev pub jobs_words : (unknown : ℕ) → List ℕ
jobs_words unknown = if unknown == 1 then codes " job may start" else codes " jobs may start"

-- what was said, and then that so many things are unknown
abbrev pub with_unknown : (remark : Option (List ℕ)) → (what : List ℕ) → (unknown : ℕ) → List ℕ
with_unknown remark what unknown =
    unwrap_or remark [] ++ codes "agenda: not known to be " ++ what ++ codes ": " ++ decimal unknown ++ jobs_words unknown
    ++ codes " at times that files don't tell; --except NAME leaves one out\n"

-- what is said about an answer with this exit status, if there is one: that a span isn't known to be clear, or gaps to be quiet, if
-- something is unknown
abbrev pub remark_with : Goal → (is_answer : Bool) → (status : ℕ) → (remark : Option (List ℕ)) → (unknown : ℕ) → Option (List ℕ)
remark_with (goal.Plan planning view.First) is_answer status remark unknown =
    if is_answer && (status == unknown_status) then Some (with_unknown remark (codes "clear") unknown) else remark
remark_with (goal.Quiet planning least) is_answer status remark unknown =
    if is_answer && nat_lt 0 unknown then Some (with_unknown remark (codes "quiet") unknown) else remark
remark_with goal is_answer status remark unknown = remark

-- the answer for the jobs that are left, where so many things are unknown, and what is said about it
abbrev pub answers_said :
    KnownTree → (dir : List ℕ) → Machine → (paths : List SourcePath) → List Found → (unknown : ℕ) → Form → Goal →
    (kept : List JobParts) → Step (Outcome × Option (List ℕ))
answers_said tree dir machine paths errors unknown form goal kept = do
  answer ← answers_with_files tree dir machine form goal kept
  status ← gives
      (jobs_status (is_clear goal) (has_found answer (finds_any goal kept)) (machine_status machine (is_all_clean errors)) unknown)
  remark ← computes (remark_with goal (is_ok answer) status (said_of answer (remark_of goal kept)) unknown)
  gives (outcome_of paths errors status (in_words goal answer), remark)

-- what follows if the answer is stopped, or else the answer
abbrev pub jobs_rest :
    (stopped is_clear : Bool) → (paths : List SourcePath) → List Found → Step (Outcome × Option (List ℕ)) → Step Rest
jobs_rest true is_clear paths errors answers = gives (stops_at_first paths errors is_clear)
jobs_rest false is_clear paths errors answers = do
  answer ← answers
  gives (plans answer.0 answer.1)

-- the answer for these jobs of a machine, in these time zones, without those that aren't asked for. Errors are those of all its sources
abbrev pub shows_kept :
    (dir : List ℕ) → MachineJobs → KnownHost → Goal → Machine → (unplanned : List NotPlanned) → ZoneClock → TimeZones →
    (planned : List JobParts) → Step Shown
shows_kept dir jobs host goal machine unplanned clock zones planned = do
  form ← form_made (record { format = jobs.format; table = jobs.table }) (origin_of goal host.time) host.frame clock.name
      (unnamed_zone clock.is_of_file) zones.clock
  errors ← computes (errors_in machine zones (sources_of machine.sources.items))
  left ← left_in (root_of dir) machine unplanned (paths_of false (root_of dir) machine.sources.items) errors clock.is_unknown
      (kept_jobs zones (sources_of machine.sources.items)) planned jobs.except jobs.only
  rest ← jobs_rest (is_stopped jobs.strict errors) (is_clear goal) (paths_of false (root_of dir) machine.sources.items) errors
      (answers_said host.tree dir machine (paths_of false (root_of dir) machine.sources.items) errors left.unknown form goal left.jobs)
  gives (shown_with dir machine unplanned clock.is_unknown rest)

-- the same for the jobs of the sources that are loaded
abbrev pub shows_jobs_in :
    (dir : List ℕ) → MachineJobs → KnownHost → Goal → Machine → (unplanned : List NotPlanned) → (planned : List Source) → ZoneClock →
    TimeZones → Step Shown
shows_jobs_in dir jobs host goal machine unplanned planned clock zones =
    shows_kept dir jobs host goal machine unplanned clock zones (kept_jobs zones planned)

-- `upcoming`, `plan` and the like: the zone is read first, then the times or an earlier agenda, and then the zones of events
abbrev pub shows_jobs :
    Held → KnownHost → (dir : List ℕ) → MachineJobs → Machine → (unplanned : List NotPlanned) → (planned : List Source) → Step Shown
shows_jobs held host dir jobs machine unplanned planned = do
  clock ← machine_clock held host.tree jobs.zone
  goal ← goal_at held host.time clock.clock jobs
  zones ← machine_zones held host.tree clock.clock (sources_of machine.sources.items)
  shows_jobs_in dir jobs host goal machine unplanned planned clock zones

-- the descriptions of the jobs that are left, about which nothing is said
abbrev pub descriptions_said :
    Machine → (paths : List SourcePath) → List Found → Form → TimeZones → (planned : List Source) → (kept : List JobParts) → Step Outcome
descriptions_said machine paths errors form zones planned kept = do
  answer ← described_as (description_output form zones planned (Ok kept))
  gives (outcome_of paths errors (machine_status machine (is_all_clean errors)) answer)

-- the same, as an answer about which nothing is said
abbrev pub unremarked : Step Outcome → Step (Outcome × Option (List ℕ))
unremarked step = do
  outcome ← step
  gives (outcome, None)

-- `describe`: the zone is read first, and then the zones of events. Errors are those of all sources, and jobs those of the sources that
-- are loaded
abbrev pub shows_descriptions :
    Held → KnownHost → (dir : List ℕ) → MachineDescribe → Machine → (unplanned : List NotPlanned) → (planned : List Source) → Step Shown
shows_descriptions held host dir describe machine unplanned planned = do
  clock ← machine_clock held host.tree describe.zone
  zones ← machine_zones held host.tree clock.clock (sources_of machine.sources.items)
  form ← form_made (record { format = record { json = describe.json; local = false }; table = describe.table }) None host.frame clock.name
      (unnamed_zone clock.is_of_file) zones.clock
  errors ← computes (errors_in machine zones (sources_of machine.sources.items))
  left ← left_in (root_of dir) machine unplanned (paths_of false (root_of dir) machine.sources.items) errors clock.is_unknown
      (kept_jobs zones (sources_of machine.sources.items)) (kept_jobs zones planned) describe.except describe.only
  rest ← jobs_rest (is_stopped describe.strict errors) false (paths_of false (root_of dir) machine.sources.items) errors
      (unremarked (descriptions_said machine (paths_of false (root_of dir) machine.sources.items) errors form zones planned left.jobs))
  gives (shown_with dir machine unplanned clock.is_unknown rest)

-- the machine that the program runs on, below a root
abbrev pub host_below : KnownHost → (root : List ℕ) → KnownHost
host_below host root = record { tree = tree_below host.tree root; time = host.time; frame = host.frame }

-- what isn't planned on a machine. If idle jobs aren't, they are among it
abbrev pub unplanned_on : KnownTree → (idle : Bool) → Machine → Step (List NotPlanned)
unplanned_on tree idle machine = looks tree (λ unplanned. unplanned ≡ unplanned_with_idle tree.held idle machine)

-- the sources that a plan reads, with or without idle jobs
abbrev pub planned_on : KnownTree → (idle : Bool) → Machine → Step (List Source)
planned_on tree idle machine = looks tree (λ planned. planned ≡ planned_sources tree.held idle machine)

-- what isn't planned on a machine by its files alone, and its idle jobs
abbrev pub idle_on : KnownTree → Machine → Step (List NotPlanned)
idle_on tree machine = looks tree (λ unplanned. unplanned ≡ machine.unplanned.items ++ idle_jobs tree.held machine)

-- the answer to a question. For jobs, timers that start by monotonic settings alone are among what isn't planned, and so is what the
-- daemons don't load, and idle jobs unless they are asked for
abbrev pub shows : Held → KnownHost → (dir : List ℕ) → MachineQuestion → Machine → Step Shown
shows held host dir (question.Jobs jobs) machine = do
  unplanned ← unplanned_on (tree_below host.tree (root_of dir)) jobs.idle machine
  planned ← planned_on (tree_below host.tree (root_of dir)) jobs.idle machine
  shows_jobs held (host_below host (root_of dir)) dir jobs machine unplanned planned
shows held host dir (question.Sources json) machine = shows_sources dir json machine
shows held host dir (question.Describe describe) machine = do
  unplanned ← unplanned_on (tree_below host.tree (root_of dir)) describe.idle machine
  planned ← planned_on (tree_below host.tree (root_of dir)) describe.idle machine
  shows_descriptions held (host_below host (root_of dir)) dir describe machine unplanned planned
shows held host dir (question.Check check) machine = do
  unplanned ← idle_on (tree_below host.tree (root_of dir)) machine
  shows_findings held (tree_below host.tree (root_of dir)) dir check machine unplanned

-- the same, once the machine's sources are found
abbrev pub machine_ends : Held → KnownHost → MachineRequest → Step Shown
machine_ends held host request = do
  machine ← machine_of host.tree request.all (dir_of request.root)
  shows held host (dir_of request.root) request.question machine

-- ---- the streams

-- the exit status of an answer that the first error stopped: whether a span is clear isn't known then
abbrev pub stopped_status : (is_clear : Bool) → ℕ
stopped_status is_clear = if is_clear then unknown_status else rejected_status

-- the line of the first error, after which nothing is printed; or standard error breaks off in it
abbrev pub ReportsFirst : (paths : List SourcePath) → (errors : List Found) → (is_clear : Bool) → ℕ → StreamChange → Type 0
ReportsFirst paths errors is_clear status err =
    (BreaksOff err.takes_all err.old err.new (skipped_text [] paths (take 1 errors)) × (status ≡ failed_status))
    ⊎ (Appends err.old err.new (skipped_text [] paths (take 1 errors)) × (status ≡ stopped_status is_clear))

-- what is said after an answer, which ended with the status `before`: nothing if the answer failed, and otherwise a line; or standard
-- error breaks off in it
abbrev pub SaysUnless : (failed : Bool) → (line : List ℕ) → (before status : ℕ) → StreamChange → Type 0
SaysUnless true line before status err = (status ≡ before) × Keeps err.old err.new
SaysUnless false line before status err =
    (BreaksOff err.takes_all err.old err.new line × (status ≡ failed_status)) ⊎ (Appends err.old err.new line × (status ≡ before))

abbrev pub Says : (remark : Option (List ℕ)) → (before status : ℕ) → StreamChange → Type 0
Says None before status err = (status ≡ before) × Keeps err.old err.new
Says (Some line) before status err = SaysUnless (before == failed_status) line before status err

-- what follows what is reported
abbrev pub ShowsRest : Rest → ℕ → (out err : StreamChange) → Type 0
ShowsRest (prints printed) status out err = ExitsWith [] (Ok printed) status out err
ShowsRest (plans outcome remark) status out err =
    (before : ℕ) × (mid : Option (List ℕ)) × Reports [] outcome before out (record err { new = mid })
    × Says remark before status (record err { old = mid })
ShowsRest (stops_at_first paths errors is_clear) status out err = ReportsFirst paths errors is_clear status err × Keeps out.old out.new

-- standard error breaks off in what is reported, and nothing is printed; or it takes that, and the answer follows
abbrev pub Shows : Result Shown Failure → ℕ → (out err : StreamChange) → Type 0
Shows (Ok shown) status out err =
    ((shown.has_reports ≡ true) × BreaksOff err.takes_all err.old err.new shown.reports × (status ≡ failed_status) × Keeps out.old out.new)
    ⊎ ((mid : Option (List ℕ)) × Appends err.old mid shown.reports × ShowsRest shown.rest status out (record err { old = mid }))
Shows (Err failure) status out err = ExitsWith [] (Err failure) status out err

-- it is asked whether a span is clear
abbrev pub is_clear_goal : MachineGoal → Bool
is_clear_goal (asked.Plan span sizes view.First) = true
is_clear_goal goal = false

abbrev pub is_clear_question : MachineQuestion → Bool
is_clear_question (question.Jobs jobs) = is_clear_goal jobs.goal
is_clear_question other = false

-- the exit status without an answer, by that of the error. If it was asked whether a span is clear, 1 says that a job may start: what is
-- rejected ends with 2, and a machine with too many units is unknown
abbrev pub unanswered_status : (is_clear is_too_large : Bool) → (status : ℕ) → ℕ
unanswered_status is_clear is_too_large status =
    if not is_clear || not (status == rejected_status) then status else (if is_too_large then unknown_status else usage_status)

-- a machine has too many units
abbrev pub is_too_large : Failure → Bool
is_too_large (TooManyUnits dir) = true
is_too_large other = false

-- the answer is shown, or the error, by the question
abbrev pub ShowsFor : MachineQuestion → Result Shown Failure → ℕ → (out err : StreamChange) → Type 0
ShowsFor about (Ok shown) status out err = Shows (Ok shown) status out err
ShowsFor about (Err failure) status out err =
    (before : ℕ) × Shows (Err failure) before out err
    × (status ≡ unanswered_status (is_clear_question about) (is_too_large failure) before)

-- the answer to a request
abbrev pub AnswersMachine : Held → KnownHost → MachineRequest → ℕ → (out err : StreamChange) → Type 0
AnswersMachine held host request status out err =
    (end : Result Shown Failure) × machine_ends held host request end × ShowsFor request.question end status out err
