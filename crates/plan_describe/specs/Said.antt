-- How a rule is said (agenda).
use Rattle.std.specs.Prelude.{ℕ, ◌+◌, ◌%◌, Bool, true, false, ◌&&◌, [], ◌∷◌, List, Option, Some, None}
use Rattle.std.specs.List.{range_with_len}
use Rattle.plan_sets.specs.Values.{Values as SetOfValues, has_value}
use Rattle.plan_match.specs.declared.cron.CronRule.{CronRule}
use Rattle.plan_match.specs.declared.event.Calendar.{Calendar}
use Rattle.plan_match.specs.declared.event.DayCount.{DayCount}
use Rattle.plan_match.specs.declared.event.DayCount.TheVariants as count
use Rattle.plan_words.specs.Tree.{Schedule}
use Rattle.plan_describe.specs.Numbers.{members}
use Rattle.plan_describe.specs.TimeSaid.{time_said}
use Rattle.plan_describe.specs.DaysSaid.{days_said, months_said, years_said}

-- the members of a set in a range
abbrev pub set_members : SetOfValues → (first count : ℕ) → List ℕ
set_members values first count = members (has_value values) first count

-- the weekdays of a cron rule, from 0 for Monday; the rule's set has them from 0 for Sunday (crontab(5))
abbrev pub cron_weekdays : SetOfValues → List ℕ
cron_weekdays values = members (λ w. has_value values ((w + 1) % 7)) 0 7

-- the weekdays of an event; all of them, if it has no weekday part (systemd.time(7))
abbrev pub event_weekdays : Option SetOfValues → List ℕ
event_weekdays None = range_with_len 0 7
event_weekdays (Some values) = set_members values 0 7

abbrev pub is_from_end : DayCount → Bool
is_from_end count.FromStart = false
is_from_end count.FromEnd = true

-- how a cron rule is said
abbrev pub cron_said : CronRule → Schedule
cron_said rule = record {
  time = time_said (0 ∷ []) (set_members rule.minutes 0 60) (set_members rule.hours 0 24);
  days = days_said (rule.month_days_restricted && rule.week_days_restricted) false (set_members rule.month_days 1 31)
      (cron_weekdays rule.week_days);
  months = months_said (set_members rule.months 1 12);
  years = None;
  zone = None;
}

-- how a calendar event is said, with the name of the zone that it ends with, if any
abbrev pub event_said : Calendar → Option (List ℕ) → Schedule
event_said event zone = record {
  time = time_said (set_members event.seconds 0 60) (set_members event.minutes 0 60) (set_members event.hours 0 24);
  days = days_said false (is_from_end event.day_count) (set_members event.days 1 31) (event_weekdays event.weekdays);
  months = months_said (set_members event.months 1 12);
  years = years_said (has_value event.years);
  zone = zone;
}
