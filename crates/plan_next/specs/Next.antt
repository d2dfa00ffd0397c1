-- The next starts of a rule and of its events.
use Rattle.std.specs.Prelude.{◌≡◌, ℕ, ◌+◌, ◌/◌, ◌%◌, ◌<◌, ◌≤◌, Bool, true, ◌&&◌, List, length, Option, None, Some, slice_get, slice_index}
use Rattle.plan_sets.specs.Values.{Values, has_value}
use Rattle.plan_match.specs.declared.cron.CronRule.{CronRule}
use Rattle.plan_match.specs.declared.event.Calendar.{Calendar}
use Rattle.plan_match.specs.declared.rule.Rule.{Rule}
use Rattle.plan_match.specs.declared.rule.Rule.TheVariants.{Cron, Never, Events}
use Rattle.plan_next.specs.Search.{cron_admits_day}
use Rattle.plan_next.specs.Starts.{NoneIn, event_starts, is_start}
use Rattle.plan_next.specs.UtcLaws.{HasNoClock}
use Rattle.plan_sets.specs.Limits.{end_second}

-- the maximum length of a list of events whose next starts are kept (agenda)
abbrev pub most_kept : ℕ
most_kept = 64

-- n is the first number at or after a and before b that passes the test, or b if no number does
pub record IsFirstOrEnd (test : ℕ → Bool) (a b n : ℕ) : Type 0 where
  pub from : a ≤ n
  pub to : n ≤ b
  pub none : NoneIn test a n
  pub is : n < b → test n ≡ true

-- the next minute in the hour is kept for each of these minutes, and 60 for the last
abbrev pub AreNextMinutes : (minutes : Values) → List ℕ → Type 0
AreNextMinutes minutes kept =
    (m : ℕ) → m < 60 → has_value minutes m ≡ true → IsFirstOrEnd (has_value minutes) (m + 1) 60 (slice_index kept m)

-- the rule starts at that minute, counted from 1970-01-01T00:00:00Z, by UTC
abbrev pub starts_at_minute : CronRule → ℕ → Bool
starts_at_minute rule minute =
    has_value rule.minutes (minute % 60) && (has_value rule.hours (minute / 60 % 24) && cron_admits_day rule (minute / 60 / 24))

-- each number of `kept` is the next start of the event at the same place
abbrev pub AreNexts : List Calendar → (from end : ℕ) → List ℕ → Type 0
AreNexts events from end kept =
    (k : ℕ) → (event : Calendar) → slice_get events k ≡ Some event
    → IsFirstOrEnd (event_starts event) from end (slice_index kept k)

-- what is kept: for a cron rule the next minute for each of its minutes, and for a list of events that isn't too long
-- the next start of each at or after `start` (agenda)
abbrev pub KeepsNexts : Rule → (start end : ℕ) → List ℕ → Type 0
KeepsNexts (Cron rule) start end kept = AreNextMinutes rule.minutes kept
KeepsNexts Never start end kept = Unit {0}
KeepsNexts (Events events) start end kept = length events ≤ most_kept → AreNexts events start end kept

-- what is known of the present start of a rule: it is a start or the end, and the next ones are kept (agenda)
pub record IsKnown (rule : Rule) (start end : ℕ) (guess : Option ℕ) (kept : List ℕ) : Type 0 where
  pub to : start ≤ end
  pub years : end ≤ end_second
  pub is : start < end → is_start rule start ≡ true
  pub utc : guess ≡ None → HasNoClock rule
  pub nexts : KeepsNexts rule start end kept
