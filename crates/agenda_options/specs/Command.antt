-- The command line of the program, as it is described to clap.
use Rattle.std.specs.Prelude.{ℕ, Bool, false, true, pos, List, [], ◌∷◌, ◌++◌, map, Some, codes}
use Rattle.clap.specs.Words.{App, Rule, new_app, new_rule, with_rule, with_subcommand}
use Rattle.clap.specs.Simple.{on_top}
use Rattle.clap.specs.declared.builder.action.ArgAction.TheVariants.{Append, SetTrue}
use Rattle.clap.specs.declared.builder.value_parser.ValueParser.TheVariants as parser
use Rattle.plan_rules.specs.declared.SourceKind.{SourceKind}
use Rattle.plan_rules.specs.declared.SourceKind.TheVariants.{Timer}
use Rattle.agenda_options.specs.declared.command.CommandOption.{CommandOption}
use Rattle.agenda_options.specs.declared.command.CommandOption.TheVariants.{Flag, Text, Preset, Repeated, Moment, Number, Tuning, Argument}
use Rattle.agenda_options.specs.declared.command.subcommands.Subcommand.{Subcommand}
use Rattle.agenda_options.specs.declared.command.subcommands.Subcommand.TheVariants as each
use Rattle.plan_rules.specs.SourceKind.{is_many, kinds, option_of}

-- an argument `VALUE`, which is optional (agenda)
abbrev pub argument_named : List ℕ → Rule
argument_named name = record (new_rule name) { value_names = 1 }

-- an option `--name VALUE`, which is optional (agenda)
abbrev pub option_named : List ℕ → Rule
option_named name = record (argument_named name) { long = Some name }

-- a flag `--name`: an option without a value (agenda)
abbrev pub flag_option : List ℕ → Rule
flag_option name = record (new_rule name) { long = Some name; action = Some SetTrue }

-- an option for a text, which has a default (agenda)
abbrev pub preset_option : List ℕ → (default : List ℕ) → Rule
preset_option name default = record (option_named name) { defaults = default ∷ [] }

-- an option for a timestamp, which is required (agenda)
abbrev pub moment_option : List ℕ → Rule
moment_option name = record (option_named name) { required = true }

-- an argument with another long name (agenda)
abbrev pub with_alias : Rule → (name : List ℕ) → Rule
with_alias rule name = record rule { aliases = rule.aliases ++ name ∷ [] }

-- an option for a whole number of 32 bits, which has a default (agenda)
abbrev pub number_option : List ℕ → List ℕ → Rule
number_option name default = record (option_named name) {
  parser = Some (parser.Signed (pos 0) (pos 4294967295));
  defaults = default ∷ [];
}

-- an argument `VALUE`, which is required (agenda)
abbrev pub required_argument : List ℕ → Rule
required_argument name = record (argument_named name) { required = true }

-- an option that may be given any number of times (agenda)
abbrev pub repeated_option : List ℕ → Rule
repeated_option name = record (option_named name) { action = Some Append }

-- the rule of an option or argument that a subcommand lists (agenda)
abbrev pub rule_for : CommandOption → Rule
rule_for (Flag name help) = flag_option name.now
rule_for (Text name value help) = option_named name.now
rule_for (Preset name value default help) = preset_option name.now default.now
rule_for (Repeated name value help) = repeated_option name.now
rule_for (Moment name help) = moment_option name.now
rule_for (Number name default help) = number_option name.now default.now
rule_for (Tuning name default help) = number_option name.now default.now
rule_for (Argument name value help) = required_argument name.now

-- the optional argument `CODE` (agenda)
abbrev pub code_argument : Rule
code_argument = argument_named (codes "code")

-- an argument that may be given any number of times, if `many` (agenda)
abbrev pub with_count : (many : Bool) → Rule → Rule
with_count false rule = rule
with_count true rule = record rule { action = Some Append }

-- what gives the path of a source of a kind: the argument `TIMER`, or an option (agenda)
abbrev pub path_rule : SourceKind → Rule
path_rule Timer = argument_named (option_of Timer)
path_rule kind = option_named (option_of kind)

-- what names sources of a kind: `--crontab F`, `--system-crontab F`, and, any number of times, `--cron-d F`,
-- `--spool F` and `TIMER` (agenda)
abbrev pub source_rule : SourceKind → Rule
source_rule kind = with_count (is_many kind) (path_rule kind)

-- a command with these arguments added, one after the other (agenda)
abbrev pub with_each : App → List Rule → App
with_each app [] = app
with_each app (rule ∷ rules) = with_each (with_rule app rule) rules

-- a subcommand with these options and arguments (agenda)
abbrev pub subcommand_with : List ℕ → List Rule → App
subcommand_with name rules = with_each (new_app name) rules

-- a command with the options and arguments that name sources added: `[--crontab F] [--system-crontab F]
-- [--cron-d F ..] [--spool F ..] [TIMER ..]` (agenda)
unfoldable pub with_sources : App → App
with_sources app = with_each app (map source_rule kinds)

-- a command with the options for time zones added: `[--zone ZONE] [--event-zones]` (agenda)
unfoldable pub with_zones : App → App
with_zones app = with_each app (option_named (codes "zone") ∷ flag_option (codes "event-zones") ∷ [])

-- a command with the flags for the form of its output added: `[--json] [--local]` (agenda)
unfoldable pub with_format : App → App
with_format app = with_each app (flag_option (codes "json") ∷ flag_option (codes "local") ∷ [])

-- a command with what `plan`, `upcoming` and `quiet` have in common added: the zones, `[--keep-going] [--delays]`, the form of the
-- output and the sources (agenda)
unfoldable pub with_jobs : App → App
with_jobs app =
    with_sources (with_format (with_each (with_zones app) (flag_option (codes "keep-going") ∷ flag_option (codes "delays") ∷ [])))

-- a command with the span of a plan added: `--since T --until T`; `--upto` is another name of `--until` (agenda)
unfoldable pub with_span : App → App
with_span app = with_each app (moment_option (codes "since") ∷ with_alias (moment_option (codes "until")) (codes "upto") ∷ [])

-- a command with the sizes of a plan added: `[--limit N] [--planners N] [--room N]`; `default` is the default of the limit (agenda)
unfoldable pub with_sizes : App → (default : List ℕ) → App
with_sizes app default = with_each app (number_option (codes "limit") default ∷ number_option (codes "planners") (codes "2")
    ∷ number_option (codes "room") (codes "16") ∷ [])

-- `next --after T`, the zones, `[--count N] (--cron TEXT or --calendar TEXT)` and the form of the output; that exactly one of `--cron`
-- and `--calendar` is present is checked after clap's parse (agenda)
unfoldable pub next : App
next = with_format (with_each (with_zones (subcommand_with (codes "next") (moment_option (codes "after") ∷ [])))
    (number_option (codes "count") (codes "1") ∷ option_named (codes "cron") ∷ option_named (codes "calendar") ∷ []))

-- `plan` with the span, the jobs and the sizes (agenda)
unfoldable pub plan : App
plan = with_sizes (with_jobs (with_span (new_app (codes "plan")))) (codes "10000")

-- `upcoming --after T` and the jobs (agenda)
unfoldable pub upcoming : App
upcoming = with_jobs (subcommand_with (codes "upcoming") (moment_option (codes "after") ∷ []))

-- `quiet` with the span, the jobs, `[--least N]` and the sizes (agenda)
unfoldable pub quiet : App
quiet = with_sizes
    (with_each (with_jobs (with_span (new_app (codes "quiet")))) (number_option (codes "least") (codes "1800") ∷ []))
    (codes "1000000")

-- a command with what `downtime` and `week` have in common added: the span, the zones, `[--keep-going] [--json]`, the sources and the
-- sizes (agenda)
unfoldable pub with_window : App → App
with_window app = with_sizes
    (with_sources (with_each (with_zones (with_span app)) (flag_option (codes "keep-going") ∷ flag_option (codes "json") ∷ [])))
    (codes "1000000")

-- `downtime` with the span, the sources and the sizes (agenda)
unfoldable pub downtime : App
downtime = with_window (new_app (codes "downtime"))

-- `week` with the same (agenda)
unfoldable pub week : App
week = with_window (new_app (codes "week"))

-- the options of `clear` beside the span and the zones (agenda)
abbrev pub clear_rules : List Rule
clear_rules = flag_option (codes "keep-going") ∷ flag_option (codes "nominal") ∷ flag_option (codes "local") ∷ []

-- the sizes of a search without a limit: `[--planners N] [--room N]` (agenda)
abbrev pub search_rules : List Rule
search_rules = number_option (codes "planners") (codes "2") ∷ number_option (codes "room") (codes "16") ∷ []

-- `clear` with the span, the zones, `[--keep-going] [--nominal] [--local]`, the sources, and the sizes without a limit (agenda)
unfoldable pub clear : App
clear = with_each (with_sources (with_each (with_zones (with_span (new_app (codes "clear")))) clear_rules)) search_rules

-- `changes BEFORE` with the zones, `[--keep-going]`, the form of the output, the sources and the sizes (agenda)
unfoldable pub changes : App
changes = with_sizes
    (with_sources (with_format (with_each (with_zones (subcommand_with (codes "changes") (required_argument (codes "before") ∷ [])))
    (flag_option (codes "keep-going") ∷ []))))
    (codes "10000")

-- which warnings `check` makes errors, and which it leaves out: `[--deny CODE ..] [--allow CODE ..]` (agenda)
abbrev pub policy_rules : List Rule
policy_rules = repeated_option (codes "deny") ∷ repeated_option (codes "allow") ∷ []

-- `check` with the zones, the policy, `[--json]` and the sources (agenda)
unfoldable pub check : App
check = with_sources (with_each (with_zones (new_app (codes "check"))) (policy_rules ++ flag_option (codes "json") ∷ []))

-- the options of `describe` beside the zones (agenda)
abbrev pub describe_rules : List Rule
describe_rules = option_named (codes "cron") ∷ option_named (codes "calendar") ∷ flag_option (codes "keep-going")
    ∷ flag_option (codes "json") ∷ []

-- `describe` with the zones, `[--cron TEXT or --calendar TEXT]`, `[--keep-going] [--json]` and the sources; that a rule comes without
-- sources is checked after clap's parse (agenda)
unfoldable pub describe : App
describe = with_sources (with_each (with_zones (new_app (codes "describe"))) describe_rules)

-- `steps FILE` (agenda)
unfoldable pub steps : App
steps = subcommand_with (codes "steps") (required_argument (codes "file") ∷ [])

-- `explain [CODE]` (agenda)
unfoldable pub explain : App
explain = subcommand_with (codes "explain") (code_argument ∷ [])

-- `machine`, as help lists it; its own arguments are those of another command line (agenda)
unfoldable pub machine_listed : App
machine_listed = new_app (codes "machine")

-- a command with what names a machine added: `[--root DIR] [--all]`; the root directory is `/` if it isn't given (agenda)
unfoldable pub with_machine : App → App
with_machine app = with_each app (preset_option (codes "root") (codes "/") ∷ flag_option (codes "all") ∷ [])

-- `machine sources` with the machine and `[--json]` (agenda)
unfoldable pub machine_sources : App
machine_sources = with_each (with_machine (new_app (codes "sources"))) (flag_option (codes "json") ∷ [])

-- what decides the time zone of a question about a machine: `[--zone ZONE or --utc]`; that not both are present is checked after
-- clap's parse (agenda)
abbrev pub machine_zone_rules : List Rule
machine_zone_rules = option_named (codes "zone") ∷ flag_option (codes "utc") ∷ []

-- which jobs an answer about a machine has, and the time zone of their rules: the zone,
-- `[--except PATTERN ..] [--only PATTERN ..] [--idle]` (agenda)
abbrev pub choice_rules : List Rule
choice_rules =
    machine_zone_rules ++ repeated_option (codes "except") ∷ repeated_option (codes "only") ∷ flag_option (codes "idle") ∷ []

-- the sizes of a plan of a machine: `[--limit N] [--planners N] [--room N]` (agenda)
abbrev pub machine_size_rules : List Rule
machine_size_rules = number_option (codes "limit") (codes "1000000") ∷ number_option (codes "planners") (codes "2")
    ∷ number_option (codes "room") (codes "16") ∷ []

-- the form of the answer to a question for starts or gaps: `[--table or --text or --json]`; that at most one is present is checked
-- after clap's parse (agenda)
abbrev pub machine_form_rules : List Rule
machine_form_rules = flag_option (codes "table") ∷ flag_option (codes "text") ∷ flag_option (codes "json") ∷ []

-- `machine check` with the machine, the zone, the policy and `[--json]` (agenda)
unfoldable pub machine_check : App
machine_check = with_each (with_machine (new_app (codes "check")))
    (machine_zone_rules ++ (policy_rules ++ flag_option (codes "json") ∷ []))

-- `machine upcoming` with the machine, `[--after TIME]`, the choice, `[--delays]`, `[--strict]` and the form (agenda)
unfoldable pub machine_upcoming : App
machine_upcoming = with_each (with_machine (new_app (codes "upcoming")))
    (preset_option (codes "after") (codes "now") ∷ choice_rules ++ flag_option (codes "delays")
    ∷ flag_option (codes "strict") ∷ machine_form_rules)

-- a command with what names a machine and with the span of a plan added: `[--since TIME] [--until TIME]`, which are these times if
-- they aren't given; `--upto` is another name of `--until` (agenda)
unfoldable pub with_machine_times : (since until : List ℕ) → App → App
with_machine_times since until app = with_each (with_machine app)
    (preset_option (codes "since") since ∷ with_alias (preset_option (codes "until") until) (codes "upto") ∷ [])

-- the same, from now on for a day if they aren't given (agenda)
unfoldable pub with_machine_span : App → App
with_machine_span app = with_machine_times (codes "now") (codes "+24h") app

-- `machine plan` with the machine, the span, the choice, `[--delays]`, `[--strict]`, the form and the sizes (agenda)
unfoldable pub machine_plan : App
machine_plan = with_each (with_machine_span (new_app (codes "plan")))
    (choice_rules ++ flag_option (codes "delays") ∷ flag_option (codes "strict")
    ∷ machine_form_rules ++ machine_size_rules)

-- `machine quiet` with the machine, the span, `[--least LENGTH]`, the choice, `[--nominal]`, `[--strict]`, the form and
-- the sizes (agenda)
unfoldable pub machine_quiet : App
machine_quiet = with_each (with_machine_span (new_app (codes "quiet")))
    (preset_option (codes "least") (codes "30min") ∷ choice_rules ++ flag_option (codes "nominal")
    ∷ flag_option (codes "strict") ∷ machine_form_rules ++ machine_size_rules)

-- `machine downtime` with the machine, the span, the choice, `[--strict]`, the form and the sizes (agenda)
unfoldable pub machine_downtime : App
machine_downtime = with_each (with_machine_span (new_app (codes "downtime")))
    (choice_rules ++ flag_option (codes "strict") ∷ machine_form_rules ++ machine_size_rules)

-- `machine clear` with the machine, the span, the choice, `[--nominal]`, `[--strict]`, and the sizes without a limit
-- (agenda)
unfoldable pub machine_clear : App
machine_clear = with_each (with_machine_span (new_app (codes "clear")))
    (choice_rules ++ flag_option (codes "nominal") ∷ flag_option (codes "strict") ∷ search_rules)

-- `machine week` with the machine, the span, which is a week from the start of today if it isn't given, the choice,
-- `[--strict]`, `[--json]` and the sizes (agenda)
unfoldable pub machine_week : App
machine_week = with_each (with_machine_times (codes "today") (codes "+7d") (new_app (codes "week")))
    (choice_rules ++ flag_option (codes "strict") ∷ flag_option (codes "json") ∷ machine_size_rules)

-- `machine changes BEFORE` with the machine, the choice, `[--strict]`, the form and the sizes (agenda)
unfoldable pub machine_changes : App
machine_changes = with_each (with_machine (new_app (codes "changes")))
    (required_argument (codes "before") ∷ choice_rules ++ flag_option (codes "strict")
    ∷ machine_form_rules ++ machine_size_rules)

-- `machine scripts` with the machine, `[--after TIME]`, the choice and `[--strict]` (agenda)
unfoldable pub machine_scripts : App
machine_scripts = with_each (with_machine (new_app (codes "scripts")))
    (preset_option (codes "after") (codes "now") ∷ choice_rules ++ flag_option (codes "strict") ∷ [])

-- `machine next RULE` with `[--after TIME] [--count N]`, the zone and the form (agenda)
unfoldable pub machine_next : App
machine_next = subcommand_with (codes "next") (required_argument (codes "rule") ∷ preset_option (codes "after") (codes "now")
    ∷ number_option (codes "count") (codes "5") ∷ machine_zone_rules ++ machine_form_rules)

-- `machine describe [RULE]` with the machine, the choice, `[--strict]` and the form (agenda)
unfoldable pub machine_describe : App
machine_describe = with_rule
    (with_each (with_machine (new_app (codes "describe")))
    (choice_rules ++ flag_option (codes "strict") ∷ machine_form_rules))
    (argument_named (codes "rule"))

-- the command line of a subcommand (agenda)
abbrev pub app_for : Subcommand → App
app_for each.Next = next
app_for each.Plan = plan
app_for each.Upcoming = upcoming
app_for each.Quiet = quiet
app_for each.Downtime = downtime
app_for each.Clear = clear
app_for each.Week = week
app_for each.Changes = changes
app_for each.Check = check
app_for each.Describe = describe
app_for each.Machine = machine_listed
app_for each.Steps = steps
app_for each.Explain = explain
app_for each.MachineUpcoming = machine_upcoming
app_for each.MachinePlan = machine_plan
app_for each.MachineQuiet = machine_quiet
app_for each.MachineDowntime = machine_downtime
app_for each.MachineClear = machine_clear
app_for each.MachineWeek = machine_week
app_for each.MachineChanges = machine_changes
app_for each.MachineScripts = machine_scripts
app_for each.MachineCheck = machine_check
app_for each.MachineSources = machine_sources
app_for each.MachineNext = machine_next
app_for each.MachineDescribe = machine_describe

-- the subcommands of `agenda`, in the order in which help lists them (agenda)
abbrev pub subcommands : List Subcommand
subcommands =
    each.Next ∷ each.Plan ∷ each.Upcoming ∷ each.Quiet ∷ each.Downtime ∷ each.Clear ∷ each.Changes ∷ each.Week ∷ each.Check
    ∷ each.Describe ∷ each.Machine ∷ each.Explain ∷ each.Steps ∷ []

-- the questions about a machine, in the order in which help lists them (agenda)
abbrev pub questions : List Subcommand
questions = each.MachineUpcoming ∷ each.MachinePlan ∷ each.MachineQuiet ∷ each.MachineDowntime ∷ each.MachineClear ∷ each.MachineChanges
    ∷ each.MachineWeek ∷ each.MachineScripts ∷ each.MachineCheck ∷ each.MachineSources ∷ each.MachineNext ∷ each.MachineDescribe ∷ []

-- a command with these subcommands added, one after the other (agenda)
abbrev pub with_subcommands : App → List Subcommand → App
with_subcommands app [] = app
with_subcommands app (subcommand ∷ rest) = with_subcommands (with_subcommand app (app_for subcommand).top) rest

-- a command without its subcommands; it requires one, and has no subcommand `help`, so that each error of clap has only one
-- answer (agenda)
abbrev pub requiring_subcommand : App → App
requiring_subcommand app = on_top (λ s. record s { subcommand_required = true; disable_help_subcommand = true }) app

-- `agenda` without its subcommands; it requires a subcommand or `--version` (agenda)
abbrev pub agenda_alone : App
agenda_alone = requiring_subcommand (on_top (λ s. record s { has_version = true }) (new_app (codes "agenda")))

-- `agenda next ..` and the other commands, or `agenda machine` (agenda)
unfoldable pub agenda : App
agenda = with_subcommands agenda_alone subcommands

-- `machine` without its subcommands; it requires one (agenda)
abbrev pub machine_alone : App
machine_alone = requiring_subcommand (new_app (codes "machine"))

-- `machine upcoming ..` and the other questions (agenda)
unfoldable pub machine : App
machine = with_subcommands machine_alone questions
