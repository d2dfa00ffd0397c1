-- When a rule's job starts: the civil fields that a rule matches.
use Rattle.std.specs.Prelude.{◌≡◌, ℕ, ◌+◌, ◌%◌, Bool, ◌&&◌, ◌||◌, ◌==◌, if◌then◌else◌, IsTrue, false}
use Rattle.plan_sets.specs.Values.{has_value}
use Rattle.plan_sets.specs.declared.civil.Civil.{Civil}
use Rattle.plan_match.specs.declared.cron.CronRule.{CronRule}
use Rattle.plan_match.specs.declared.rule.Rule.{Rule}
use Rattle.plan_match.specs.declared.rule.Rule.TheVariants.{Cron, Never, Events}
use Rattle.plan_match.specs.EventMatch.{some_event_matches}

-- the day of the week from 0 for Sunday (crontab(5), fields); in civil fields it is from 0 for Monday
abbrev pub cron_week_day : Civil → ℕ
cron_week_day civil = (civil.weekday + 1) % 7

-- if both day fields are restricted, one of them must match the day, else both (crontab(5), the note on the day of a
-- command's execution)
abbrev pub days_admit : CronRule → Civil → Bool
days_admit rule civil =
    let month_day = has_value rule.month_days civil.day in
    let week_day = has_value rule.week_days (cron_week_day civil) in
    if rule.month_days_restricted && rule.week_days_restricted then month_day || week_day else month_day && week_day

-- the day of a start: its month matches, and so do the day fields (crontab(5))
abbrev pub day_matches : CronRule → Civil → Bool
day_matches rule civil = has_value rule.months civil.month && days_admit rule civil

-- a job starts if minute, hour and day match (crontab(5)), at second 0 (agenda)
abbrev pub cron_matches : CronRule → Civil → Bool
cron_matches rule civil =
    (civil.second == 0)
    && (has_value rule.minutes civil.minute && (has_value rule.hours civil.hour && day_matches rule civil))

-- the time of day of a start (crontab(5)), at second 0 (agenda)
abbrev pub HasTimeOfDay : CronRule → Civil → Type 0
HasTimeOfDay rule civil =
    IsTrue (has_value rule.hours civil.hour) × IsTrue (has_value rule.minutes civil.minute) × (civil.second ≡ 0)

-- a rule matches civil fields; a rule that never starts a job matches none (agenda)
abbrev pub rule_matches : Rule → Civil → Bool
rule_matches (Cron rule) civil = cron_matches rule civil
rule_matches Never civil = false
rule_matches (Events events) civil = some_event_matches events civil
