-- The sentences of rules that are given by themselves, and of single events.
use Rattle.std.specs.Prelude.{ℕ, Bool, true, false, ◌&&◌, List, codes, Option, None, Some, unwrap_or, Ok}
use Rattle.std.specs.Bool.{beq}
use Rattle.plan_grammar.specs.Event.{event_reading, zone_name}
use Rattle.plan_match.specs.Equal.{same_set}
use Rattle.plan_match.specs.declared.cron.CronRule.{CronRule}
use Rattle.plan_match.specs.declared.event.Calendar.{Calendar}
use Rattle.plan_match.specs.declared.rule.Rule.{Rule}
use Rattle.plan_match.specs.declared.rule.Rule.TheVariants as rule
use Rattle.plan_rules.specs.Cron.{cron_reading}
use Rattle.plan_rules.specs.EventZones.{Zones}
use Rattle.plan_rules.specs.Readings.{Reading}
use Rattle.plan_texts.specs.Steps.{◌>>=◌}
use Rattle.plan_words.specs.Sentence.{sentence_of}
use Rattle.plan_words.specs.Tree.{OnReboot, Scheduled}
use Rattle.plan_describe.specs.Said.{cron_said, event_said}
use Rattle.agenda_sources.specs.declared.Asked.{Asked}
use Rattle.agenda_sources.specs.declared.Asked.TheVariants.{Cron, Event}

-- the sentence of the rule of a line in a crontab; one without times is `@reboot` (crontab(5))
abbrev pub crontab_sentence : Rule → List ℕ
crontab_sentence (rule.Cron cron) = sentence_of (Scheduled (cron_said cron))
crontab_sentence (rule.Events events) = sentence_of OnReboot
crontab_sentence rule.Never = sentence_of OnReboot

-- the name of the zone that an event ends with, by its text: the one that is looked up, or else UTC (systemd.time(7))
abbrev pub zone_if : (names_zone : Bool) → (text : List ℕ) → Option (List ℕ)
zone_if false text = None
zone_if true text = Some (unwrap_or (zone_name text) (codes "UTC"))

-- the same, if the event ends with a zone
abbrev pub zone_of : Calendar → (text : List ℕ) → Option (List ℕ)
zone_of event text = zone_if event.names_zone text

-- the sentence of an event that was read from this text
abbrev pub event_sentence : Calendar → (text : List ℕ) → List ℕ
event_sentence event text = sentence_of (Scheduled (event_said event (zone_of event text)))

-- the sentence of a rule that is given by itself, or the error of the rule
abbrev pub asked_sentence : Zones → Asked → Reading (List ℕ)
asked_sentence zones (Cron text) = do
  rule ← cron_reading text
  Ok (crontab_sentence rule)
asked_sentence zones (Event text) = do
  event ← event_reading zones text
  Ok (event_sentence event text)

-- two cron rules have the same fields; their clocks may differ
abbrev pub same_fields : CronRule → CronRule → Bool
same_fields a b =
    same_set a.minutes b.minutes
    && (same_set a.hours b.hours
    && (same_set a.month_days b.month_days
    && (same_set a.months b.months
    && (same_set a.week_days b.week_days
    && (beq a.month_days_restricted b.month_days_restricted && beq a.week_days_restricted b.week_days_restricted)))))
