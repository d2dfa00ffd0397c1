-- Rules whose sets have values of their fields, and no others.
use Rattle.std.specs.Prelude.{ℕ, IfSome, IsTrue}
use Rattle.std.specs.Int.{IsInRange}
use Rattle.std.specs.List.{All}
use Rattle.plan_sets.specs.Limits.{first_year, last_year}
use Rattle.plan_sets.specs.Values.{Values as SetOfValues, has_value}
use Rattle.plan_match.specs.declared.cron.CronRule.{CronRule}
use Rattle.plan_match.specs.declared.event.Calendar.{Calendar}
use Rattle.plan_match.specs.declared.rule.Rule.{Rule}
use Rattle.plan_match.specs.declared.rule.Rule.TheVariants.{Cron, Events, Never}

-- each member of a set is in the range from the first value to the last, and there is one
pub record LieWithin (first last : ℕ) (values : SetOfValues) : Type 0 where
  pub within : (v : ℕ) → IsTrue (has_value values v) → IsInRange first last v
  pub value : (v : ℕ) × IsTrue (has_value values v)

-- the limits of the fields of a cron rule (crontab(5), fields); weekdays are from 0 for Sunday to 6
pub record CronIsWithinLimits (rule : CronRule) : Type 0 where
  pub minutes : LieWithin 0 59 rule.minutes
  pub hours : LieWithin 0 23 rule.hours
  pub month_days : LieWithin 1 31 rule.month_days
  pub months : LieWithin 1 12 rule.months
  pub week_days : LieWithin 0 6 rule.week_days

-- the limits of the components of a calendar event (systemd.time(7); the years: (agenda)); weekdays are from 0 for Monday
pub record EventIsWithinLimits (event : Calendar) : Type 0 where
  pub years : LieWithin first_year last_year event.years
  pub months : LieWithin 1 12 event.months
  pub days : LieWithin 1 31 event.days
  pub hours : LieWithin 0 23 event.hours
  pub minutes : LieWithin 0 59 event.minutes
  pub seconds : LieWithin 0 59 event.seconds
  pub weekdays : IfSome event.weekdays (LieWithin 0 6)

-- all fields or events of a rule are within their limits
abbrev pub RuleIsWithinLimits : Rule → Type 0
RuleIsWithinLimits (Cron rule) = CronIsWithinLimits rule
RuleIsWithinLimits (Events events) = All EventIsWithinLimits events
RuleIsWithinLimits Never = Unit {0}
