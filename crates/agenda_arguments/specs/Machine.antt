-- What the arguments of `agenda machine` request.
use Rattle.std.specs.Prelude.{ℕ, Bool, false, List, ◌∷◌, Option, Some, None, Result, Ok, Err}
use Rattle.std.specs.Prelude.{◌&&◌, ◌||◌, ◌==◌, codes, drop, if◌then◌else◌, not, slice_get, true}
use Rattle.std.specs.Option.{option_map_or}
use Rattle.std.specs.Str.{bytes_eq}
use Rattle.clap.specs.Words.{Row, fault_of, first_of, one_of, subcommand_of}
use Rattle.plan_texts.specs.Steps.{◌>>=◌}
use Rattle.agenda_arguments.specs.declared.ask.Ask.{Ask}
use Rattle.agenda_arguments.specs.declared.ask.Ask.TheVariants.{Machine, MachineNext, MachineDescribe}
use Rattle.agenda_sources.specs.Asked.{asked_in}
use Rattle.plan_collect.specs.declared.PlanView.TheVariants as view
use Rattle.agenda_arguments.specs.declared.ask.FormatRequest.{FormatRequest}
use Rattle.agenda_arguments.specs.declared.ask.TableRequest.{TableRequest}
use Rattle.agenda_arguments.specs.declared.ask.TableRequest.TheVariants as table_request
use Rattle.agenda_arguments.specs.declared.ask.MachineGoal.{MachineGoal}
use Rattle.agenda_arguments.specs.declared.ask.MachineGoal.TheVariants as machine_goal
use Rattle.agenda_arguments.specs.declared.ask.MachineQuestion.{MachineQuestion}
use Rattle.agenda_arguments.specs.declared.ask.MachineQuestion.TheVariants as question
use Rattle.agenda_arguments.specs.declared.ask.SpanRequest.{SpanRequest}
use Rattle.agenda_options.specs.Command.{machine}
use Rattle.agenda_arguments.specs.Hint.{time_options}
use Rattle.agenda_arguments.specs.Values.{ArgumentsFault, all_values, asked_unless, is_given, is_usage, number_in, policy_in, search_sizes_in, sizes_in, wanted, zone_in}

-- the time zone of a question about a machine, which is optional: UTC with `--utc`, but not together with `--zone` (agenda)
abbrev pub machine_zone : Option (List ℕ) → (utc : Bool) → Result (Option (List ℕ)) ArgumentsFault
machine_zone zone false = Ok zone
machine_zone None true = Ok (Some (codes "UTC"))
machine_zone (Some zone) true = Err is_usage

-- what a question about a machine requests, by its values (agenda)
abbrev pub asked_of_machine : List Row → MachineQuestion → Result Ask ArgumentsFault
asked_of_machine rows asked = do
  root ← wanted (first_of (codes "root") rows)
  Ok (Machine (record { root = root; all = is_given (codes "all") rows; question = asked }))

-- what `machine sources` requests, by its values (agenda)
abbrev pub asked_by_machine_sources : List Row → Result Ask ArgumentsFault
asked_by_machine_sources rows = asked_of_machine rows (question.Sources (is_given (codes "json") rows))

-- what `machine check` requests, by its values (agenda)
abbrev pub asked_by_machine_check : List Row → Result Ask ArgumentsFault
asked_by_machine_check rows = do
  zone ← machine_zone (zone_in rows) (is_given (codes "utc") rows)
  policy ← policy_in rows
  asked_of_machine rows (question.Check (record { zone = zone; policy = policy; json = is_given (codes "json") rows }))

-- how the answer to a question about the jobs of a machine is written: its times are local, unless `--utc` is given (agenda)
abbrev pub machine_format_in : List Row → FormatRequest
machine_format_in rows = record { json = is_given (codes "json") rows; local = not (is_given (codes "utc") rows) }

-- whether the answer is a table, by whether `--table`, `--text` and `--json` are given: at most one of them may be (agenda)
abbrev pub table_in : (table text json : Bool) → Result TableRequest ArgumentsFault
table_in false false false = Ok table_request.OnTerminal
table_in true false false = Ok table_request.Always
table_in false true false = Ok table_request.Never
table_in false false true = Ok table_request.Never
table_in table text json = Err is_usage

-- whether the answer for a goal is a table, by the values: the hours of a week, a first start and scripts have none (agenda)
abbrev pub table_for : MachineGoal → List Row → Result TableRequest ArgumentsFault
table_for (machine_goal.Plan span sizes view.Week) rows = Ok table_request.Never
table_for (machine_goal.Plan span sizes view.First) rows = Ok table_request.Never
table_for (machine_goal.Scripts after) rows = Ok table_request.Never
table_for goal rows =
    table_in (is_given (codes "table") rows) (is_given (codes "text") rows) (is_given (codes "json") rows)

-- what is made of the jobs of a machine, by the values (agenda)
abbrev pub asked_of_jobs : List Row → (delays : Bool) → MachineGoal → Result Ask ArgumentsFault
asked_of_jobs rows delays goal = do
  zone ← machine_zone (zone_in rows) (is_given (codes "utc") rows)
  table ← table_for goal rows
  asked_of_machine rows (question.Jobs (record {
    goal = goal;
    zone = zone;
    except = all_values (codes "except") rows;
    only = all_values (codes "only") rows;
    delays = delays;
    strict = is_given (codes "strict") rows;
    idle = is_given (codes "idle") rows;
    format = machine_format_in rows;
    table = table;
  }))

-- the span of a question about a machine, by the values (agenda)
abbrev pub span_in : List Row → Result SpanRequest ArgumentsFault
span_in rows = do
  since ← wanted (first_of (codes "since") rows)
  until ← wanted (first_of (codes "until") rows)
  Ok (record { since = since; until = until })

-- what `machine upcoming` requests, by its values (agenda)
abbrev pub asked_by_machine_upcoming : List Row → Result Ask ArgumentsFault
asked_by_machine_upcoming rows = do
  after ← wanted (first_of (codes "after") rows)
  asked_of_jobs rows (is_given (codes "delays") rows) (machine_goal.Upcoming after)

-- what `machine plan` requests, by its values (agenda)
abbrev pub asked_by_machine_plan : List Row → Result Ask ArgumentsFault
asked_by_machine_plan rows = do
  span ← span_in rows
  sizes ← sizes_in rows
  asked_of_jobs rows (is_given (codes "delays") rows) (machine_goal.Plan span sizes view.Starts)

-- what `machine quiet` requests, by its values: delays count unless `--nominal` is given (agenda)
abbrev pub asked_by_machine_quiet : List Row → Result Ask ArgumentsFault
asked_by_machine_quiet rows = do
  span ← span_in rows
  sizes ← sizes_in rows
  least ← wanted (first_of (codes "least") rows)
  asked_of_jobs rows (not (is_given (codes "nominal") rows)) (machine_goal.Quiet span sizes least)

-- what `machine downtime` requests, by its values: delays count (agenda)
abbrev pub asked_by_machine_downtime : List Row → Result Ask ArgumentsFault
asked_by_machine_downtime rows = do
  span ← span_in rows
  sizes ← sizes_in rows
  asked_of_jobs rows true (machine_goal.Plan span sizes view.Downtime)

-- what `machine clear` requests, by its values: delays count unless `--nominal` is given (agenda)
abbrev pub asked_by_machine_clear : List Row → Result Ask ArgumentsFault
asked_by_machine_clear rows = do
  span ← span_in rows
  sizes ← search_sizes_in rows
  asked_of_jobs rows (not (is_given (codes "nominal") rows)) (machine_goal.Plan span sizes view.First)

-- what `machine changes` requests, by its values: delays don't count (agenda)
abbrev pub asked_by_machine_changes : List Row → Result Ask ArgumentsFault
asked_by_machine_changes rows = do
  before ← wanted (first_of (codes "before") rows)
  sizes ← sizes_in rows
  asked_of_jobs rows false (machine_goal.Changes before sizes)

-- what `machine week` requests, by its values: delays don't count (agenda)
abbrev pub asked_by_machine_week : List Row → Result Ask ArgumentsFault
asked_by_machine_week rows = do
  span ← span_in rows
  sizes ← sizes_in rows
  asked_of_jobs rows false (machine_goal.Plan span sizes view.Week)

-- what `machine scripts` requests, by its values: delays don't count (agenda)
abbrev pub asked_by_machine_scripts : List Row → Result Ask ArgumentsFault
asked_by_machine_scripts rows = do
  after ← wanted (first_of (codes "after") rows)
  asked_of_jobs rows false (machine_goal.Scripts after)

-- what `machine next` requests, by its values (agenda)
abbrev pub asked_by_machine_next : List Row → Result Ask ArgumentsFault
asked_by_machine_next rows = do
  text ← wanted (first_of (codes "rule") rows)
  count ← wanted (number_in (one_of (codes "count") rows))
  after ← wanted (first_of (codes "after") rows)
  zone ← machine_zone (zone_in rows) (is_given (codes "utc") rows)
  table ← table_in (is_given (codes "table") rows) (is_given (codes "text") rows) (is_given (codes "json") rows)
  Ok (MachineNext (record {
    rule = asked_in text;
    after = after;
    count = count;
    zone = zone;
    format = machine_format_in rows;
    table = table;
  }))

-- what `machine describe` requests, by its rule and the other values: the rule alone, or else the jobs of the machine (agenda)
abbrev pub asked_of_description : Option (List ℕ) → (zone : Option (List ℕ)) → TableRequest → List Row → Result Ask ArgumentsFault
asked_of_description (Some text) given table rows = Ok (MachineDescribe (asked_in text) (is_given (codes "json") rows))
asked_of_description None given table rows = asked_of_machine rows (question.Describe (record {
  zone = given;
  except = all_values (codes "except") rows;
  only = all_values (codes "only") rows;
  strict = is_given (codes "strict") rows;
  idle = is_given (codes "idle") rows;
  json = is_given (codes "json") rows;
  table = table;
}))

abbrev pub asked_by_machine_describe : List Row → Result Ask ArgumentsFault
asked_by_machine_describe rows = do
  zone ← machine_zone (zone_in rows) (is_given (codes "utc") rows)
  table ← table_in (is_given (codes "table") rows) (is_given (codes "text") rows) (is_given (codes "json") rows)
  asked_of_description (first_of (codes "rule") rows) zone table rows

-- what the given question about a machine requests, by its name and its values (agenda)
abbrev pub asked_by_question : Option (List ℕ × List Row) → Result Ask ArgumentsFault
asked_by_question None = Err is_usage
asked_by_question (Some met) =
    if bytes_eq met.0 (codes "upcoming") then asked_by_machine_upcoming met.1
    else (if bytes_eq met.0 (codes "plan") then asked_by_machine_plan met.1
    else (if bytes_eq met.0 (codes "quiet") then asked_by_machine_quiet met.1
    else (if bytes_eq met.0 (codes "downtime") then asked_by_machine_downtime met.1
    else (if bytes_eq met.0 (codes "clear") then asked_by_machine_clear met.1
    else (if bytes_eq met.0 (codes "changes") then asked_by_machine_changes met.1
    else (if bytes_eq met.0 (codes "week") then asked_by_machine_week met.1
    else (if bytes_eq met.0 (codes "scripts") then asked_by_machine_scripts met.1
    else (if bytes_eq met.0 (codes "check") then asked_by_machine_check met.1
    else (if bytes_eq met.0 (codes "sources") then asked_by_machine_sources met.1
    else (if bytes_eq met.0 (codes "next") then asked_by_machine_next met.1
    else (if bytes_eq met.0 (codes "describe") then asked_by_machine_describe met.1 else Err is_usage)))))))))))

-- what the arguments of `agenda machine` request, of which the first is `machine` and the second a question (agenda)
unfoldable pub asked_by_machine : List (List ℕ) → Result Ask ArgumentsFault
asked_by_machine words = asked_unless (fault_of machine words) (asked_by_question (subcommand_of machine words))

-- whether a word is an option other than help (agenda)
abbrev pub is_option : List ℕ → Bool
is_option word = option_map_or (λ byte. byte == 45) (slice_get word 0) false
    && not (bytes_eq word (codes "-h") || bytes_eq word (codes "--help"))

-- whether the arguments of `agenda machine` have no question: after `machine` there is nothing, or an option (agenda)
abbrev pub lacks_question : List (List ℕ) → Bool
lacks_question words = option_map_or is_option (slice_get words 1) true

-- the arguments of `agenda machine` with a question: `upcoming` if there is none (agenda)
abbrev pub with_question : List (List ℕ) → List (List ℕ)
with_question words = if lacks_question words then codes "machine" ∷ codes "upcoming" ∷ drop 1 words else words

-- what the arguments of `agenda machine` request, and the options that the hint of their usage errors names (agenda)
abbrev pub asked_about_machine : List (List ℕ) → Result Ask ArgumentsFault × Option (List ℕ)
asked_about_machine words = (asked_by_machine words, time_options words)
