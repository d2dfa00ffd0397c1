-- Worked rows of the command line: what the arguments request, by the definition.
-- They answer the goals of no function, but test `asked_by`, which is unfolded with clap's definitions and
-- computed. One row holds for any two plain words (`any_moment_and_rule`). It depends on how clap reads them.
use Rattle.std.proofs.Common.{◌≡◌, Bool, List, ℕ, [], ◌∷◌, false, true, Option, None, Some, Result, Ok, Err, codes, refl}
use Rattle.std.specs.List.{list_all}
use Rattle.std.specs.Str.{bytes_eq}
use Rattle.clap.specs.Lexer.{long_of, short_of}
use Rattle.clap.proofs.OnLiterals.{clap_on_literals}
use Rattle.plan_texts.specs.Text.{cut_at, words}
use Rattle.plan_collect.specs.declared.PlanView.{PlanView}
use Rattle.plan_collect.specs.declared.PlanView.TheVariants as view
use Rattle.plan_collect.specs.declared.Sizes.{Sizes}
use Rattle.agenda_arguments.specs.declared.ask.Ask.{Ask}
use Rattle.agenda_arguments.specs.declared.ask.Ask.TheVariants.{Next, Plan, Upcoming, Quiet, Check, Steps, Machine, MachineNext}
use Rattle.agenda_arguments.specs.declared.ask.FormatRequest.{FormatRequest}
use Rattle.agenda_arguments.specs.declared.ask.JobsRequest.{JobsRequest}
use Rattle.agenda_arguments.specs.declared.ask.MachineGoal.{MachineGoal}
use Rattle.agenda_arguments.specs.declared.ask.MachineGoal.TheVariants as machine_goal
use Rattle.agenda_arguments.specs.declared.ask.MachineJobs.{MachineJobs}
use Rattle.agenda_arguments.specs.declared.ask.MachineNext.{MachineNext as NextParts}
use Rattle.agenda_arguments.specs.declared.ask.TableRequest.TheVariants as table_request
use Rattle.agenda_arguments.specs.declared.ask.MachineQuestion.{MachineQuestion}
use Rattle.agenda_arguments.specs.declared.ask.MachineQuestion.TheVariants as question
use Rattle.agenda_arguments.specs.declared.ask.PlanRequest.{PlanRequest}
use Rattle.agenda_arguments.specs.declared.ask.SpanRequest.{SpanRequest}
use Rattle.agenda_arguments.specs.declared.ask.ZonesRequest.{ZonesRequest}
use Rattle.agenda_codes.specs.Codes.{all_codes, code_named}
use Rattle.agenda_codes.specs.declared.Code.{Code}
use Rattle.agenda_codes.specs.declared.Code.TheVariants.{Merged, Percent, Zone}
use Rattle.agenda_policy.specs.declared.Policy.{Policy}
use Rattle.agenda_policy.specs.Policy.{neutral}
use Rattle.agenda_policy.specs.Reading.{policy_reading}
use Rattle.agenda_sources.specs.declared.Asked.{Asked}
use Rattle.agenda_sources.specs.declared.Asked.TheVariants.{Cron, Event}
use Rattle.plan_rules.specs.declared.SourceKind.TheVariants.{Crontab, System, CronD, Spool, Timer}
use Rattle.agenda_sources.specs.declared.SourcePath.{SourcePath}
use Rattle.agenda_arguments.specs.Arguments.{asked_by, path_of}
use Rattle.agenda_arguments.specs.Values.{ArgumentsFault, is_usage, wants_help}
use Rattle.agenda_arguments.specs.Hint.{hinted}
use Rattle.agenda_arguments.proofs.OnLiterals.{agenda_on_literals}
use Rattle.plan_facts.specs.Rows.{RowsHold}

-- what a command line requests, of which no argument has a blank
abbrev asked_in : List ℕ → Result Ask ArgumentsFault
asked_in line = (asked_by (words line)).0

abbrev zones_from : Option (List ℕ) → (event_zones : Bool) → ZonesRequest
zones_from zone event_zones = record { zone = zone; event_zones = event_zones }

-- neither `--zone` nor `--event-zones`
abbrev in_utc : ZonesRequest
in_utc = zones_from None false

abbrev format_from : (json local : Bool) → FormatRequest
format_from json local = record { json = json; local = local }

-- neither `--json` nor `--local`
abbrev as_text : FormatRequest
as_text = format_from false false

-- ---- next

-- a request for next starts
abbrev asks_next : (after : List ℕ) → ZonesRequest → (count : ℕ) → Asked → FormatRequest → Ask
asks_next after zones count rule format =
    Next (record { after = after; zones = zones; count = count; rule = rule; format = format })

-- a word that clap doesn't read as a flag
record IsPlainWord (word : List ℕ) : Type 0 where
  long : long_of word ≡ None
  short : short_of word ≡ None
  trailing : bytes_eq word (codes "--") ≡ false

-- any two plain words are accepted
any_moment_and_rule : (name after cron : List ℕ) → IsPlainWord after → IsPlainWord cron
    → asked_by (name ∷ codes "next" ∷ codes "--after" ∷ after ∷ codes "--cron" ∷ cron ∷ [])
    ≡ (Ok (asks_next after in_utc 1 (Cron cron) as_text), None)
unfolding asked_by clap_on_literals agenda_on_literals
any_moment_and_rule name after cron a c =
    rw (a.trailing, a.long, a.short)
    (rw (c.trailing, c.long, c.short) (refl {a = (Ok (asks_next after in_utc 1 (Cron cron) as_text), None)}))

-- the same after `t`
abbrev asks_after_t : ZonesRequest → (count : ℕ) → Asked → FormatRequest → Result Ask ArgumentsFault
asks_after_t zones count rule format = Ok (asks_next (codes "t") zones count rule format)

next_rows : RowsHold asked_in
    ((codes "agenda next --after t --count 4 --cron r", asks_after_t in_utc 4 (Cron (codes "r")) as_text)
    ∷ (
      codes "agenda next --after t --zone Europe/Oslo --cron r",
      asks_after_t (zones_from (Some (codes "Europe/Oslo")) false) 1 (Cron (codes "r")) as_text,
    )
    ∷ (codes "agenda next --after t --event-zones --calendar e", asks_after_t (zones_from None true) 1 (Event (codes "e")) as_text)
    ∷ (codes "agenda next --after t --json --calendar=e", asks_after_t in_utc 1 (Event (codes "e")) (format_from true false))
    ∷ (codes "agenda next --after t --local --calendar=e", asks_after_t in_utc 1 (Event (codes "e")) (format_from false true))
    -- one start without `--count`; a count of 0 is accepted here, and the largest is that of 32 bits
    ∷ (codes "agenda next --after t --cron r", asks_after_t in_utc 1 (Cron (codes "r")) as_text)
    ∷ (codes "agenda next --after t --count 0 --cron r", asks_after_t in_utc 0 (Cron (codes "r")) as_text)
    ∷ (codes "agenda next --after t --count=4294967295 --cron r", asks_after_t in_utc 4294967295 (Cron (codes "r")) as_text)
    ∷ (codes "agenda next --after t --calendar e", asks_after_t in_utc 1 (Event (codes "e")) as_text)
    ∷ [])
unfolding words asked_by clap_on_literals agenda_on_literals
next_rows = refl

-- ---- plan and quiet

abbrev sized : (planners room limit : ℕ) → Sizes
sized planners room limit = record { planners = planners; room = room; limit = limit }

-- the jobs of these sources, by no flag
abbrev jobs_from : List SourcePath → JobsRequest
jobs_from sources = record { zones = in_utc; sources = sources; keep_going = false; delays = false; format = as_text }

abbrev timer : List ℕ → SourcePath
timer name = path_of Timer name

-- the jobs of the timer `a`
abbrev jobs_of_a : JobsRequest
jobs_of_a = jobs_from (timer (codes "a") ∷ [])

abbrev planned : JobsRequest → Sizes → PlanRequest
planned jobs sizes = record { since = codes "s"; upto = codes "u"; jobs = jobs; sizes = sizes }

-- a plan with all numbers by default
abbrev plans : JobsRequest → Result Ask ArgumentsFault
plans jobs = Ok (Plan (planned jobs (sized 2 16 10000)) view.Starts)

-- a view of a plan with all numbers by default and a limit of 1,000,000
abbrev views : PlanView → JobsRequest → Result Ask ArgumentsFault
views shown jobs = Ok (Plan (planned jobs (sized 2 16 1000000)) shown)

-- quiet times with all numbers by default: gaps of half an hour, and a limit of 1,000,000
abbrev quiets : JobsRequest → Result Ask ArgumentsFault
quiets jobs = Ok (Quiet (planned jobs (sized 2 16 1000000)) 1800)

plan_rows : RowsHold asked_in
    -- only a span: no crontab, no timer, and the default of each number; and every option with a value
    ((codes "agenda plan --since s --upto u", plans (jobs_from []))
    ∷ (
      codes "agenda plan --since s --upto u --crontab c --system-crontab d --planners 3 --room 4 --limit 5",
      Ok (Plan (planned (jobs_from (path_of Crontab (codes "c") ∷ path_of System (codes "d") ∷ [])) (sized 3 4 5)) view.Starts),
    )
    -- timers, also between options, in the order of the arguments
    ∷ (
      codes "agenda plan --since s --upto u b --room=1 a -- -c",
      Ok (Plan (planned (jobs_from (timer (codes "b") ∷ timer (codes "a") ∷ timer (codes "-c") ∷ [])) (sized 2 1 10000)) view.Starts),
    )
    -- the argument after a flag is a timer
    ∷ (codes "agenda plan --since s --upto u --keep-going a", plans (record jobs_of_a { keep_going = true }))
    ∷ (codes "agenda plan --since s --upto u --delays a", plans (record jobs_of_a { delays = true }))
    ∷ (codes "agenda plan --since s --upto u --json a", plans (record jobs_of_a { format = format_from true false }))
    ∷ (codes "agenda plan --since s --upto u --local a", plans (record jobs_of_a { format = format_from false true }))
    ∷ (
      codes "agenda plan --since s --upto u --keep-going --event-zones --zone=UTC",
      plans (record (jobs_from []) { keep_going = true; zones = zones_from (Some (codes "UTC")) true }),
    )
    ∷ (codes "agenda plan --since s --upto u --delays --keep-going", plans (record (jobs_from []) { delays = true; keep_going = true }))
    -- `--until` instead of `--upto`
    ∷ (codes "agenda plan --until u --since s", plans (jobs_from []))
    ∷ (codes "agenda plan --since s --until=u", plans (jobs_from []))
    -- a timer before the options of crontabs: the sources are in the order of their kinds
    ∷ (
      codes "agenda plan --since s --upto u a --system-crontab d --crontab c",
      plans (jobs_from (path_of Crontab (codes "c") ∷ path_of System (codes "d") ∷ timer (codes "a") ∷ [])),
    )
    -- crontabs that have names, any number of them; those of one kind are in the order of the arguments
    ∷ (
      codes "agenda plan --since s --upto u --spool=u --cron-d b --cron-d=a --spool -",
      plans (jobs_from (path_of CronD (codes "b") ∷ path_of CronD (codes "a") ∷ path_of Spool (codes "u")
          ∷ path_of Spool (codes "-") ∷ [])),
    )
    -- delays count in `downtime`, and in `clear`, unless `--nominal` is given; `week` shows the clock of the zone, if one is given
    ∷ (codes "agenda downtime --since s --upto u a", views view.Downtime (record jobs_of_a { delays = true }))
    ∷ (codes "agenda week --since s --until u a", views view.Week jobs_of_a)
    ∷ (
      codes "agenda week --since s --until u --zone z a",
      views view.Week (record jobs_of_a { zones = zones_from (Some (codes "z")) false; format = format_from false true }),
    )
    ∷ (
      codes "agenda clear --since s --upto u a",
      Ok (Plan (planned (record jobs_of_a { delays = true }) (sized 2 16 1)) view.First),
    )
    ∷ (codes "agenda clear --since s --upto u --nominal a", Ok (Plan (planned jobs_of_a (sized 2 16 1)) view.First))
    ∷ (codes "agenda clear --since s --upto u --limit 5 a", Err is_usage)
    ∷ [])
unfolding words asked_by clap_on_literals agenda_on_literals
plan_rows = refl

quiet_rows : RowsHold asked_in
    ((codes "agenda quiet --since s --upto u", quiets (jobs_from []))
    ∷ (codes "agenda quiet --since s --upto u --keep-going", quiets (record (jobs_from []) { keep_going = true }))
    ∷ (codes "agenda quiet --since s --upto u --event-zones", quiets (record (jobs_from []) { zones = zones_from None true }))
    ∷ (codes "agenda quiet --since s --upto u --delays", quiets (record (jobs_from []) { delays = true }))
    ∷ (codes "agenda quiet --since s --until u --local --json", quiets (record (jobs_from []) { format = format_from true true }))
    ∷ [])
unfolding words asked_by clap_on_literals agenda_on_literals
quiet_rows = refl

-- ---- upcoming, steps and help

-- the next start of each job after `t`
abbrev upcomings : JobsRequest → Result Ask ArgumentsFault
upcomings jobs = Ok (Upcoming (codes "t") jobs)

other_rows : RowsHold asked_in
    ((
      codes "agenda upcoming a --crontab c --after t",
      upcomings (jobs_from (path_of Crontab (codes "c") ∷ timer (codes "a") ∷ [])),
    )
    ∷ (codes "agenda upcoming --keep-going a --after t", upcomings (record jobs_of_a { keep_going = true }))
    ∷ (codes "agenda upcoming --after t --event-zones", upcomings (record (jobs_from []) { zones = zones_from None true }))
    ∷ (codes "agenda upcoming --after t --delays", upcomings (record (jobs_from []) { delays = true }))
    ∷ (codes "agenda upcoming --json --after t --local", upcomings (record (jobs_from []) { format = format_from true true }))
    ∷ (codes "agenda steps a/b", Ok (Steps (codes "a/b")))
    -- help comes before missing options
    ∷ (codes "agenda next --help", Err wants_help)
    ∷ (codes "agenda --version", Err wants_help)
    ∷ [])
unfolding words asked_by clap_on_literals agenda_on_literals
other_rows = refl

-- ---- check

-- these warnings are errors, and these are left out
abbrev policy_from : (denies_all : Bool) → (denied allowed : List Code) → Policy
policy_from denies_all denied allowed = record { denies_all = denies_all; denied = denied; allowed = allowed }

check_rows : RowsHold asked_in
    ((codes "agenda check --event-zones a", Ok (Check (zones_from None true) (timer (codes "a") ∷ []) neutral false))
    ∷ (codes "agenda check --json a", Ok (Check in_utc (timer (codes "a") ∷ []) neutral true))
    ∷ (codes "agenda check --deny all --allow percent --allow=Merged", Ok (Check in_utc [] (policy_from true [] (Percent ∷ Merged ∷ [])) false))
    -- an error may be denied, which it is already, but not allowed
    ∷ (codes "agenda check --deny Zone --deny Percent", Ok (Check in_utc [] (policy_from false (Zone ∷ Percent ∷ []) []) false))
    ∷ (codes "agenda check --allow Zone", Err is_usage)
    ∷ (codes "agenda check --allow all", Err is_usage)
    ∷ (codes "agenda check --deny percnt", Err is_usage)
    ∷ (codes "agenda check --deny Percent --allow Percent", Err is_usage)
    ∷ [])
unfolding words asked_by policy_reading code_named all_codes clap_on_literals agenda_on_literals
check_rows = refl

-- ---- machine

-- a check of a machine without `--deny` and `--allow`
abbrev asks_check : (zone : Option (List ℕ)) → (json : Bool) → MachineQuestion
asks_check zone json = question.Check (record { zone = zone; policy = neutral; json = json })

abbrev asks_machine : (root : List ℕ) → (all : Bool) → MachineQuestion → Result Ask ArgumentsFault
asks_machine root all asked = Ok (Machine (record { root = root; all = all; question = asked }))

machine_rows : RowsHold asked_in
    -- the root directory is `/` without `--root`
    ((codes "agenda machine sources", asks_machine (codes "/") false (question.Sources false))
    ∷ (codes "agenda machine sources --json --root r", asks_machine (codes "r") false (question.Sources true))
    ∷ (codes "agenda machine sources --all --root=/r", asks_machine (codes "/r") true (question.Sources false))
    ∷ (codes "agenda machine check", asks_machine (codes "/") false (asks_check None false))
    ∷ (
      codes "agenda machine check --zone z --root r --json --all",
      asks_machine (codes "r") true (asks_check (Some (codes "z")) true),
    )
    -- `--utc` is `--zone UTC`
    ∷ (codes "agenda machine check --utc", asks_machine (codes "/") false (asks_check (Some (codes "UTC")) false))
    ∷ (codes "agenda machine --help", Err wants_help)
    ∷ (codes "agenda machine check --zone z --utc --help", Err wants_help)
    ∷ [])
unfolding words asked_by policy_reading clap_on_literals agenda_on_literals
machine_rows = refl

-- what is made of a machine's jobs, in the zone of the machine, in local times, and as a table on a terminal
abbrev asks_jobs : MachineGoal → (delays : Bool) → MachineJobs
asks_jobs goal delays = record {
  goal = goal;
  zone = None;
  except = [];
  only = [];
  delays = delays;
  strict = false;
  idle = false;
  format = format_from false true;
  table = table_request.OnTerminal;
}

-- of the machine whose root directory is `/`
abbrev asks_here : MachineJobs → Result Ask ArgumentsFault
asks_here jobs = asks_machine (codes "/") false (question.Jobs jobs)

abbrev span_from : (since until : List ℕ) → SpanRequest
span_from since until = record { since = since; until = until }

-- the span without options: a day from now on
abbrev from_now : SpanRequest
from_now = span_from (codes "now") (codes "+24h")

-- the sizes of a plan of a machine without options
abbrev machine_sizes : Sizes
machine_sizes = record { planners = 2; room = 16; limit = 1000000 }

-- the next starts without options
abbrev upcoming_now : MachineJobs
upcoming_now = asks_jobs (machine_goal.Upcoming (codes "now")) false

machine_jobs_rows : RowsHold asked_in
    -- the question is `upcoming` if there is none
    ((codes "agenda machine", asks_here upcoming_now)
    ∷ (codes "agenda machine --delays --after t", asks_here (asks_jobs (machine_goal.Upcoming (codes "t")) true))
    ∷ (codes "agenda machine upcoming", asks_here upcoming_now)
    ∷ (
      codes "agenda machine upcoming --utc --json",
      asks_here (record upcoming_now {
        zone = Some (codes "UTC");
        format = format_from true false;
        table = table_request.Never;
      }),
    )
    ∷ (codes "agenda machine --table", asks_here (record upcoming_now { table = table_request.Always }))
    ∷ (codes "agenda machine upcoming --text", asks_here (record upcoming_now { table = table_request.Never }))
    ∷ (codes "agenda machine --strict", asks_here (record upcoming_now { strict = true }))
    ∷ (codes "agenda machine --idle", asks_here (record upcoming_now { idle = true }))
    ∷ (
      codes "agenda machine scripts --idle --after t",
      asks_here (record (asks_jobs (machine_goal.Scripts (codes "t")) false) { idle = true; table = table_request.Never }),
    )
    -- the patterns of what is left out, and of what isn't, in the order of the arguments
    ∷ (codes "agenda machine --except b --except=a:1", asks_here (record upcoming_now { except = codes "b" ∷ codes "a:1" ∷ [] }))
    ∷ (
      codes "agenda machine plan --except a --only=b --only c",
      asks_here (record (asks_jobs (machine_goal.Plan from_now machine_sizes view.Starts) false) {
        except = codes "a" ∷ [];
        only = codes "b" ∷ codes "c" ∷ [];
      }),
    )
    ∷ (codes "agenda machine plan", asks_here (asks_jobs (machine_goal.Plan from_now machine_sizes view.Starts) false))
    ∷ (
      codes "agenda machine plan --since s --upto u --limit 5 --zone z",
      asks_here (record (asks_jobs
          (machine_goal.Plan (span_from (codes "s") (codes "u")) (record machine_sizes { limit = 5 }) view.Starts) false) {
            zone = Some (codes "z");
          }),
    )
    -- delays count in `quiet`, unless `--nominal` is given
    ∷ (codes "agenda machine quiet", asks_here (asks_jobs (machine_goal.Quiet from_now machine_sizes (codes "30min")) true))
    ∷ (
      codes "agenda machine quiet --nominal --least 2h --upto u",
      asks_here (asks_jobs (machine_goal.Quiet (span_from (codes "now") (codes "u")) machine_sizes (codes "2h")) false),
    )
    -- so they do in `downtime` and `clear`; `week` is a week from the start of today
    ∷ (codes "agenda machine downtime", asks_here (asks_jobs (machine_goal.Plan from_now machine_sizes view.Downtime) true))
    ∷ (
      codes "agenda machine clear --nominal",
      asks_here (record (asks_jobs (machine_goal.Plan from_now (record machine_sizes { limit = 1 }) view.First) false) {
        table = table_request.Never;
      }),
    )
    ∷ (
      codes "agenda machine week",
      asks_here (record (asks_jobs
          (machine_goal.Plan (span_from (codes "today") (codes "+7d")) machine_sizes view.Week)
          false) { table = table_request.Never }),
    )
    ∷ [])
unfolding words asked_by clap_on_literals agenda_on_literals
machine_jobs_rows = refl

-- the next five starts of a rule, in the zone of the machine, in local times, and as a table on a terminal
abbrev starts_of : Asked → NextParts
starts_of rule = record {
  rule = rule;
  after = codes "now";
  count = 5;
  zone = None;
  format = format_from false true;
  table = table_request.OnTerminal;
}

abbrev asks_starts : Asked → Result Ask ArgumentsFault
asks_starts rule = Ok (MachineNext (starts_of rule))

machine_next_rows : RowsHold asked_in
    ((codes "agenda machine next @daily", asks_starts (Cron (codes "@daily")))
    ∷ (codes "agenda machine next daily", asks_starts (Event (codes "daily")))
    ∷ (
      codes "agenda machine next --utc --count 2 --json --after=t 09:00",
      Ok (MachineNext (record {
        rule = Event (codes "09:00");
        after = codes "t";
        count = 2;
        zone = Some (codes "UTC");
        format = format_from true false;
        table = table_request.Never;
      })),
    )
    ∷ (
      codes "agenda machine next --table daily",
      Ok (MachineNext (record (starts_of (Event (codes "daily"))) { table = table_request.Always })),
    )
    ∷ (
      codes "agenda machine next daily --text",
      Ok (MachineNext (record (starts_of (Event (codes "daily"))) { table = table_request.Never })),
    )
    ∷ [])
unfolding words asked_by clap_on_literals agenda_on_literals
machine_next_rows = refl

-- ---- usage errors

-- the options that the hint of a usage error names
abbrev hint_in : List ℕ → Option (List ℕ)
hint_in line = (asked_by (words line)).1

hint_options : RowsHold hint_in
    ((codes "agenda machine plan tomorrow", Some (codes "--since or --until"))
    ∷ (codes "agenda machine quiet --least 2h tomorrow", Some (codes "--since or --until"))
    ∷ (codes "agenda machine upcoming tomorrow", Some (codes "--after"))
    ∷ (codes "agenda machine --all tomorrow", Some (codes "--after"))
    ∷ (codes "agenda machine next daily weekly", Some (codes "--after"))
    ∷ (codes "agenda machine scripts tomorrow", Some (codes "--after"))
    ∷ (codes "agenda machine check tomorrow", None)
    ∷ (codes "agenda machine sources tomorrow", None)
    ∷ (codes "agenda plan tomorrow", None)
    ∷ [])
unfolding words asked_by
hint_options = refl

-- the hint is in place of ` found` after a word, and not after an option
hints : RowsHold (hinted (Some (codes "--after")))
    ((
      codes "error: unexpected argument 'a' found\n\nUsage: agenda\n",
      codes "error: unexpected argument 'a' (for a time, use --after)\n\nUsage: agenda\n",
    )
    ∷ (codes "error: unexpected argument '-a' found\n", codes "error: unexpected argument '-a' found\n")
    ∷ (codes "error: unrecognized subcommand 'a'\n", codes "error: unrecognized subcommand 'a'\n")
    ∷ [])
unfolding cut_at
hints = refl

abbrev is_usage_error : Result Ask ArgumentsFault → Bool
is_usage_error (Err is_usage) = true
is_usage_error other = false

usage_errors : list_all (λ line. is_usage_error (asked_in line))
    -- no subcommand, and another one
    (codes "agenda"
    ∷ codes "agenda plans"
    -- something is missing: the rule, the timestamp, the path, the start, the end, or a value
    ∷ codes "agenda next --after t"
    ∷ codes "agenda next --cron r"
    ∷ codes "agenda steps"
    ∷ codes "agenda plan --upto u"
    ∷ codes "agenda plan --since s"
    ∷ codes "agenda plan --since s --until"
    -- twice
    ∷ codes "agenda next --after t --zone UTC --zone UTC --cron r"
    ∷ codes "agenda next --after t --event-zones --event-zones --calendar e"
    ∷ codes "agenda next --after t --calendar e --cron r"
    ∷ codes "agenda steps a b"
    ∷ codes "agenda plan --since s --upto u --keep-going --keep-going"
    ∷ codes "agenda plan --since s --upto u --delays --delays"
    ∷ codes "agenda plan --since s --upto u --local --local"
    ∷ codes "agenda plan --since s --upto u --until u"
    ∷ codes "agenda plan --since s --upto u --crontab c --crontab=d"
    -- a value of a flag
    ∷ codes "agenda next --after t --event-zones=true --calendar e"
    ∷ codes "agenda plan --since s --upto u --keep-going=true"
    ∷ codes "agenda plan --since s --upto u --delays=true"
    ∷ codes "agenda plan --since s --upto u --json=true"
    -- a number that is none, more than 32 bits, or negative
    ∷ codes "agenda next --after t --count x --cron r"
    ∷ codes "agenda next --after t --count=4294967296 --cron r"
    ∷ codes "agenda plan --since s --upto u --planners x"
    ∷ codes "agenda plan --since s --upto u --limit=4294967296"
    ∷ codes "agenda quiet --since s --upto u --least -1"
    -- an option of another command
    ∷ codes "agenda next --after t --until=u --calendar=e"
    ∷ codes "agenda next --after t --delays --calendar e"
    ∷ codes "agenda next --after t --version"
    ∷ codes "agenda upcoming --after t --until=u"
    ∷ codes "agenda check --delays"
    ∷ codes "agenda check --keep-going"
    ∷ codes "agenda check --local"
    ∷ codes "agenda steps --json a"
    ∷ codes "agenda steps --event-zones a"
    -- another question about a machine, both zones, and an option of another question
    ∷ codes "agenda machine plans"
    ∷ codes "agenda machine --utc --zone z"
    ∷ codes "agenda machine plan --after t"
    ∷ codes "agenda machine quiet --delays"
    ∷ codes "agenda machine quiet --except"
    ∷ codes "agenda machine check --except a"
    ∷ codes "agenda machine check --zone z --utc"
    ∷ codes "agenda machine sources --utc"
    ∷ codes "agenda machine sources --event-zones"
    ∷ codes "agenda machine next"
    ∷ codes "agenda machine next daily weekly"
    ∷ codes "agenda machine next daily --root r"
    ∷ codes "agenda machine next daily --zone z --utc"
    ∷ codes "agenda machine next daily --json --table"
    -- `machine` isn't the first argument
    ∷ codes "agenda -- machine sources"
    ∷ codes "agenda sources"
    ∷ [])
    ≡ true
unfolding words asked_by clap_on_literals agenda_on_literals
usage_errors = refl
