-- The next starts of one rule.
use Rattle.std.specs.Prelude.{ℕ, ◌&&◌, nat_le, if◌then◌else◌, List, Result, Ok, Err}
use Rattle.plan_match.specs.Zone.{rule_in}
use Rattle.plan_rules.specs.declared.Rule.{Rule}
use Rattle.plan_rules.specs.Cron.{cron_reading}
use Rattle.plan_rules.specs.Event.{event_rule_reading}
use Rattle.plan_rules.specs.EventZones.{Zones}
use Rattle.plan_rules.specs.Readings.{Reading}
use Rattle.plan_texts.specs.Steps.{◌>>=◌}
pub use Rattle.plan_write.specs.Next.{next_text}
use Rattle.plan_write.specs.declared.Format.{Format}
use Rattle.agenda_sources.specs.declared.TimeZones.{TimeZones}
use Rattle.agenda_sources.specs.declared.Asked.{Asked}
use Rattle.agenda_sources.specs.declared.Asked.TheVariants.{Cron, Event}
use Rattle.agenda_faults.specs.declared.faults.RunFault.{RunFault}
use Rattle.agenda_faults.specs.declared.faults.RunFault.TheVariants.{BadCount}
use Rattle.agenda_faults.specs.Faults.{fault_of_rule}
use Rattle.agenda_commands.specs.Command.{step}

-- the requested rule, from its text; in UTC unless it names a zone (agenda)
abbrev pub asked_rule : Zones → Asked → Reading Rule
asked_rule zones (Cron text) = cron_reading text
asked_rule zones (Event text) = event_rule_reading zones text

-- the same, in these time zones (agenda)
abbrev pub asked_reading : TimeZones → Asked → Reading Rule
asked_reading zones asked = do
  rule ← asked_rule zones.timers.zones asked
  Ok (rule_in zones.clock rule)

-- the maximum number of starts that can be requested (agenda)
abbrev pub most_starts : ℕ
most_starts = 1000

-- a number of starts that can be requested (agenda)
abbrev pub valid_count : ℕ → Result ℕ RunFault
valid_count count = if nat_le 1 count && nat_le count most_starts then Ok count else Err BadCount

-- what `next` writes for the requested rule: the count is checked first, then the rule (agenda)
abbrev pub next_output : TimeZones → Asked → (after count : ℕ) → Format → Result (List ℕ) RunFault
next_output zones asked after count format = do
  many ← valid_count count
  rule ← step fault_of_rule (asked_reading zones asked)
  Ok (next_text format rule after many)
