-- What the arguments of the command line request.
use Rattle.std.specs.Prelude.{◌≡◌, ⊤, ℕ, Bool, false, List, [], ◌∷◌, Option, Some, None, Result, Ok, Err}
use Rattle.std.specs.Prelude.{◌==◌, codes, length, drop, if◌then◌else◌, is_some, map, not, slice_get, true, IfErr}
use Rattle.std.specs.List.{flat_map}
use Rattle.std.specs.Option.{option_map_or}
use Rattle.std.specs.Str.{bytes_eq}
use Rattle.clap.specs.Words.{Row, fault_of, first_of, one_of, subcommand_of}
use Rattle.clap.specs.declared.error.kind.ErrorKind.{ErrorKind}
use Rattle.clap.specs.declared.error.kind.ErrorKind.TheVariants.{DisplayHelp, DisplayVersion, OutOfMemory}
use Rattle.plan_texts.specs.Steps.{◌>>=◌}
use Rattle.agenda_arguments.specs.declared.ask.Ask.{Ask}
use Rattle.agenda_arguments.specs.declared.ask.Ask.TheVariants.{Next, Plan, Upcoming, Quiet, Changes, Check, Describe, DescribeJobs, Steps, Explain}
use Rattle.agenda_codes.specs.declared.Code.{Code}
use Rattle.agenda_codes.specs.Codes.{code_named}
use Rattle.plan_collect.specs.declared.PlanView.TheVariants as view
use Rattle.agenda_arguments.specs.declared.ask.FormatRequest.{FormatRequest}
use Rattle.agenda_arguments.specs.declared.ask.JobsRequest.{JobsRequest}
use Rattle.agenda_arguments.specs.declared.ask.PlanRequest.{PlanRequest}
use Rattle.agenda_arguments.specs.declared.ask.UsageFault.{UsageFault}
use Rattle.agenda_arguments.specs.declared.ask.UsageFault.TheVariants.{NoMemory, Usage, Help}
use Rattle.agenda_arguments.specs.declared.ask.ZonesRequest.{ZonesRequest}
use Rattle.plan_rules.specs.declared.SourceKind.{SourceKind}
use Rattle.agenda_sources.specs.declared.SourcePath.{SourcePath}
use Rattle.plan_rules.specs.SourceKind.{is_many, kinds, option_of}
use Rattle.agenda_options.specs.Command.{agenda}
use Rattle.agenda_arguments.specs.Hint.{hinted}
use Rattle.agenda_arguments.specs.Values.{ArgumentsFault, all_values, asked_unless, is_given, is_usage, number_in, one_rule, policy_in, search_sizes_in, sizes_in, wanted, wants_help, zone_in}
use Rattle.agenda_arguments.specs.Machine.{asked_about_machine, with_question}

-- the time zones of a request, by the values: that of the rules, and whether events may end with one (agenda)
abbrev pub zones_in : List Row → ZonesRequest
zones_in rows = record { zone = zone_in rows; event_zones = is_given (codes "event-zones") rows }

-- how an answer is written, by the values (agenda)
abbrev pub format_in : List Row → FormatRequest
format_in rows = record { json = is_given (codes "json") rows; local = is_given (codes "local") rows }

-- what `next` requests, by its values (agenda)
abbrev pub asked_by_next : List Row → Result Ask ArgumentsFault
asked_by_next rows = do
  after ← wanted (first_of (codes "after") rows)
  count ← wanted (number_in (one_of (codes "count") rows))
  rule ← one_rule (first_of (codes "cron") rows) (first_of (codes "calendar") rows)
  Ok (Next (record { after = after; zones = zones_in rows; count = count; rule = rule; format = format_in rows }))

-- a path with the kind of its source (agenda)
abbrev pub path_of : SourceKind → List ℕ → SourcePath
path_of kind path = record { kind = kind; path = path }

-- an optional text, as a list (agenda)
abbrev pub all_given : Option (List ℕ) → List (List ℕ)
all_given None = []
all_given (Some text) = text ∷ []

-- the paths of the sources of a kind: all of them, in the order of the arguments, or at most one for a kind
-- with a single source (agenda)
abbrev pub paths_in : SourceKind → List Row → List (List ℕ)
paths_in kind rows =
    if is_many kind then all_values (option_of kind) rows else all_given (first_of (option_of kind) rows)

-- the paths of all sources, in the order of their kinds (agenda)
abbrev pub sources_in : List Row → List SourcePath
sources_in rows = flat_map (λ kind. map (path_of kind) (paths_in kind rows)) kinds

-- what jobs are read from, by the values; there may be no source (agenda)
abbrev pub jobs_in : List Row → JobsRequest
jobs_in rows = record {
  zones = zones_in rows;
  sources = sources_in rows;
  keep_going = is_given (codes "keep-going") rows;
  delays = is_given (codes "delays") rows;
  format = format_in rows;
}

-- what a plan is made from, by its values; the end of the span is that of `--upto`, or of its other name (agenda)
unfoldable pub plan_in : List Row → Result PlanRequest ArgumentsFault
plan_in rows = do
  since ← wanted (first_of (codes "since") rows)
  upto ← wanted (first_of (codes "until") rows)
  sizes ← sizes_in rows
  Ok (record { since = since; upto = upto; jobs = jobs_in rows; sizes = sizes })

-- what `plan` requests, by its values (agenda)
abbrev pub asked_by_plan : List Row → Result Ask ArgumentsFault
asked_by_plan rows = do
  plan ← plan_in rows
  Ok (Plan plan view.Starts)

-- what `upcoming` requests, by its values (agenda)
abbrev pub asked_by_upcoming : List Row → Result Ask ArgumentsFault
asked_by_upcoming rows = do
  after ← wanted (first_of (codes "after") rows)
  Ok (Upcoming after (jobs_in rows))

-- what `quiet` requests, by its values (agenda)
abbrev pub asked_by_quiet : List Row → Result Ask ArgumentsFault
asked_by_quiet rows = do
  plan ← plan_in rows
  least ← wanted (number_in (one_of (codes "least") rows))
  Ok (Quiet plan least)

-- what `downtime` requests, by its values: delays count (agenda)
abbrev pub asked_by_downtime : List Row → Result Ask ArgumentsFault
asked_by_downtime rows = do
  plan ← plan_in rows
  Ok (Plan (record plan { jobs = record plan.jobs { delays = true } }) view.Downtime)

-- what `week` requests, by its values: days and hours are those that the clock of the zone shows, if one is given (agenda)
abbrev pub asked_by_week : List Row → Result Ask ArgumentsFault
asked_by_week rows = do
  plan ← plan_in rows
  Ok (Plan (record plan { jobs = record plan.jobs { format = record plan.jobs.format { local = is_some plan.jobs.zones.zone } } }) view.Week)

-- what `clear` requests, by its values: delays count unless `--nominal` is given (agenda)
unfoldable pub asked_by_clear : List Row → Result Ask ArgumentsFault
asked_by_clear rows = do
  since ← wanted (first_of (codes "since") rows)
  upto ← wanted (first_of (codes "until") rows)
  sizes ← search_sizes_in rows
  Ok (Plan (record {
    since = since;
    upto = upto;
    jobs = record (jobs_in rows) { delays = not (is_given (codes "nominal") rows) };
    sizes = sizes;
  }) view.First)

-- what `changes` requests, by its values (agenda)
abbrev pub asked_by_changes : List Row → Result Ask ArgumentsFault
asked_by_changes rows = do
  before ← wanted (first_of (codes "before") rows)
  sizes ← sizes_in rows
  Ok (Changes (record { before = before; jobs = jobs_in rows; sizes = sizes }))

-- what `check` requests, by its values; there may be no source (agenda)
abbrev pub asked_by_check : List Row → Result Ask ArgumentsFault
asked_by_check rows = do
  policy ← policy_in rows
  Ok (Check (zones_in rows) (sources_in rows) policy (is_given (codes "json") rows))

-- what is requested, if it comes without sources (agenda)
abbrev pub without_sources : List SourcePath → Ask → Result Ask ArgumentsFault
without_sources sources ask = if length sources == 0 then Ok ask else Err is_usage

-- what `describe` requests of the given rule, by its values (agenda)
abbrev pub asked_by_rule : List Row → Result Ask ArgumentsFault
asked_by_rule rows = do
  rule ← one_rule (first_of (codes "cron") rows) (first_of (codes "calendar") rows)
  without_sources (sources_in rows) (Describe rule (zones_in rows) (is_given (codes "json") rows))

-- what `describe` requests, by its values: the rule alone, or the jobs of the sources if none is given (agenda)
abbrev pub asked_by_description : (cron calendar : Option (List ℕ)) → List Row → Result Ask ArgumentsFault
asked_by_description None None rows = Ok (DescribeJobs (jobs_in rows))
asked_by_description cron calendar rows = asked_by_rule rows

abbrev pub asked_by_describe : List Row → Result Ask ArgumentsFault
asked_by_describe rows = asked_by_description (first_of (codes "cron") rows) (first_of (codes "calendar") rows) rows

-- what `steps` requests, by its values (agenda)
abbrev pub asked_by_steps : List Row → Result Ask ArgumentsFault
asked_by_steps rows = do
  file ← wanted (first_of (codes "file") rows)
  Ok (Steps file)

-- the code with an optional name; the name must be one of a code (agenda)
abbrev pub code_in : Option (List ℕ) → Result (Option Code) ArgumentsFault
code_in None = Ok None
code_in (Some name) = do
  code ← wanted (code_named name)
  Ok (Some code)

-- what `explain` requests, by its values (agenda)
abbrev pub asked_by_explain : List Row → Result Ask ArgumentsFault
asked_by_explain rows = do
  code ← code_in (first_of (codes "code") rows)
  Ok (Explain code)

-- what the given subcommand requests, by its name and its values (agenda)
abbrev pub asked_by_subcommand : Option (List ℕ × List Row) → Result Ask ArgumentsFault
asked_by_subcommand None = Err is_usage
asked_by_subcommand (Some met) =
    if bytes_eq met.0 (codes "next") then asked_by_next met.1
    else (if bytes_eq met.0 (codes "plan") then asked_by_plan met.1
    else (if bytes_eq met.0 (codes "upcoming") then asked_by_upcoming met.1
    else (if bytes_eq met.0 (codes "quiet") then asked_by_quiet met.1
    else (if bytes_eq met.0 (codes "downtime") then asked_by_downtime met.1
    else (if bytes_eq met.0 (codes "clear") then asked_by_clear met.1
    else (if bytes_eq met.0 (codes "changes") then asked_by_changes met.1
    else (if bytes_eq met.0 (codes "week") then asked_by_week met.1
    else (if bytes_eq met.0 (codes "check") then asked_by_check met.1
    else (if bytes_eq met.0 (codes "describe") then asked_by_describe met.1
    else (if bytes_eq met.0 (codes "steps") then asked_by_steps met.1
    else (if bytes_eq met.0 (codes "explain") then asked_by_explain met.1 else Err is_usage)))))))))))

-- what the arguments of `agenda` request, if they aren't those of `agenda machine` (agenda)
unfoldable pub asked_by_agenda : List (List ℕ) → Result Ask ArgumentsFault
asked_by_agenda words = asked_unless (fault_of agenda words) (asked_by_subcommand (subcommand_of agenda words))

-- whether the arguments are those of `agenda machine`: `machine` follows the name of the program (agenda)
abbrev pub are_of_machine : List (List ℕ) → Bool
are_of_machine words = option_map_or (λ word. bytes_eq word (codes "machine")) (slice_get words 1) false

-- what the arguments request, and the options that the hint of a usage error names, if it has one; the arguments of
-- `agenda machine`, from `machine` on, are a command line of their own (agenda)
unfoldable pub asked_by : List (List ℕ) → Result Ask ArgumentsFault × Option (List ℕ)
asked_by words =
    if are_of_machine words then asked_about_machine (with_question (drop 1 words)) else (asked_by_agenda words, None)

-- the result is what the definition says, or an allocation failed (agenda)
abbrev pub Follows : {X : Type 0} → Result X UsageFault → Result X ArgumentsFault → Type 0
Follows (Ok x) read = read ≡ Ok x
Follows (Err NoMemory) read = ⊤
Follows (Err (Usage text)) read = read ≡ Err is_usage
Follows (Err (Help text)) read = read ≡ Err wants_help

-- the text of a usage error has the hint that names these options (agenda)
abbrev pub HasHint : Option (List ℕ) → UsageFault → Type 0
HasHint options (Usage text) = (said : List ℕ) × (text ≡ hinted options said)
HasHint options NoMemory = ⊤
HasHint options (Help text) = ⊤

-- the result is what the arguments request, and a usage error has its hint (agenda)
abbrev pub Gives : Result Ask UsageFault → Result Ask ArgumentsFault × Option (List ℕ) → Type 0
Gives result asked = Follows result asked.0 × IfErr result (HasHint asked.1)

-- the error that is returned for a kind of clap's errors (agenda)
abbrev pub IsAnswerTo : ErrorKind → UsageFault → Type 0
IsAnswerTo OutOfMemory fault = fault ≡ NoMemory
IsAnswerTo DisplayHelp fault = (text : List ℕ) × (fault ≡ Help text)
IsAnswerTo DisplayVersion fault = (text : List ℕ) × (fault ≡ Help text)
IsAnswerTo _ fault = (text : List ℕ) × (fault ≡ Usage text)
