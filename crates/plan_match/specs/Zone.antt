-- Rules in the zone of a clock.
use Rattle.std.specs.Prelude.{if◌then◌else◌, List, map}
use Rattle.plan_clock.specs.declared.row.Change.{Change}
use Rattle.plan_match.specs.declared.cron.CronRule.{CronRule}
use Rattle.plan_match.specs.declared.event.Calendar.{Calendar}
use Rattle.plan_match.specs.declared.rule.Rule.{Rule}
use Rattle.plan_match.specs.declared.rule.Rule.TheVariants.{Cron, Never, Events}

-- a cron rule uses the clock of the zone in which cron runs (cron(8))
abbrev pub cron_in : List Change → CronRule → CronRule
cron_in clock rule = record rule { clock = clock }

-- a calendar event uses the clock of the system's zone, unless it names its own zone (systemd.time(7))
abbrev pub event_in : List Change → Calendar → Calendar
event_in clock event = if event.names_zone then event else record event { clock = clock }

-- a rule in the zone of a clock
abbrev pub rule_in : List Change → Rule → Rule
rule_in clock (Cron rule) = Cron (cron_in clock rule)
rule_in clock (Events events) = Events (map (event_in clock) events)
rule_in clock Never = Never
