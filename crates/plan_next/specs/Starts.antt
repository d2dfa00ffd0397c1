-- The starts of a rule, and the first of them.
use Rattle.std.specs.Prelude.{◌≡◌, ℕ, ◌-◌, ◌<◌, ◌≤◌, ℤ, pos, negsuc, ◌+ℤ◌, Bool, true, false, not, ◌&&◌, ◌==◌, if◌then◌else◌, max, nat_lt, List, filter, Option, Some, None}
use Rattle.std.specs.List.{list_any, range_with_len}
use Rattle.plan_clock.specs.declared.row.Row.{Row}
use Rattle.plan_clock.specs.Rows.{due, is_repeated, natural, row_at, shown}
use Rattle.plan_sets.specs.Limits.{end_second}
use Rattle.plan_sets.specs.Civil.{civil_fields}
use Rattle.plan_sets.specs.declared.civil.Civil.{Civil}
use Rattle.plan_match.specs.declared.cron.CronRule.{CronRule}
use Rattle.plan_match.specs.declared.event.Calendar.{Calendar}
use Rattle.plan_match.specs.declared.rule.Rule.{Rule}
use Rattle.plan_match.specs.declared.rule.Rule.TheVariants.{Cron, Never, Events}
use Rattle.plan_match.specs.EventMatch.{event_matches}
use Rattle.plan_match.specs.Heeds.{cron_heeds, event_heeds}
use Rattle.plan_match.specs.Match.{cron_matches}

-- no number at or after a and before b passes the test
abbrev pub NoneIn : (ℕ → Bool) → (a b : ℕ) → Type 0
NoneIn test a b = (n : ℕ) → a ≤ n → n < b → test n ≡ false

-- n is the first number at or after a and before b that passes the test
abbrev pub IsLeastIn : (ℕ → Bool) → (a b n : ℕ) → Type 0
IsLeastIn test a b n = (a ≤ n) × (n < b) × (test n ≡ true) × NoneIn test a n

-- the answer is the first number at or after a and before b that passes the test, or None if no number does
abbrev pub IsFirstIn : (ℕ → Bool) → (a b : ℕ) → Option ℕ → Type 0
IsFirstIn test a b None = NoneIn test a b
IsFirstIn test a b (Some n) = IsLeastIn test a b n

-- the numbers at or after a and before b that pass the test, ascending
unfoldable pub passing : (ℕ → Bool) → (a b : ℕ) → List ℕ
passing test a b = filter test (range_with_len a (b - a))

-- the integer passes the test; no negative one does
abbrev pub passes : (ℕ → Bool) → ℤ → Bool
passes test (pos n) = test n
passes test (negsuc n) = false

-- some number from a to b, both included, passes the test; no negative one does
unfoldable pub some_between : (ℕ → Bool) → (a b : ℤ) → Bool
some_between test a b = list_any test (range_with_len (natural a) (natural (b +ℤ pos 1) - natural a))

-- n is a start in a row of a clock; the test says which seconds have matching civil fields. What the clock shows must
-- match. If the row's change is heeded, repeated times start nothing, and what a gap skipped is made up for when the row begins
unfoldable pub starts_in : Row → Bool → (ℕ → Bool) → ℕ → Bool
starts_in row heeds test n =
    if heeds
    then not (is_repeated row n)
    && (if n == row.second then some_between test (due row) (shown row n) else passes test (shown row n))
    else passes test (shown row n)

-- the first of the seconds that count for a start at or after second n in a row, as the clock shows them; if the row's
-- change is heeded, repeated times don't count, and at the row's first second the times that a gap skipped do
abbrev pub first_counted : Row → Bool → ℕ → ℕ
first_counted row heeds n =
    if heeds
    then (if n == row.second then natural (due row) else max (natural (due row)) (natural (shown row n)))
    else natural (shown row n)

-- second m is in the planner's years, and its civil fields match
abbrev pub is_shown : (Civil → Bool) → ℕ → Bool
is_shown matches m = nat_lt m end_second && matches (civil_fields m)

-- second n is a start of a cron rule (cron(8))
abbrev pub cron_starts : CronRule → ℕ → Bool
cron_starts rule n =
    let row = row_at rule.clock n in starts_in row (cron_heeds rule row) (is_shown (cron_matches rule)) n

-- second n is a start of a calendar event (systemd.time(7))
abbrev pub event_starts : Calendar → ℕ → Bool
event_starts event n =
    let row = row_at event.clock n in starts_in row (event_heeds row) (is_shown (event_matches event)) n

-- second n is a start of the rule, in any year; a list of events starts when any of them does (systemd.timer(5),
-- `OnCalendar=`), and a rule that never starts a job has no start (agenda)
abbrev pub rule_starts : Rule → ℕ → Bool
rule_starts (Cron rule) n = cron_starts rule n
rule_starts Never n = false
rule_starts (Events events) n = list_any (λ event. event_starts event n) events

-- second n is a start of the rule, and in the planner's years
abbrev pub is_start : Rule → ℕ → Bool
is_start rule n = nat_lt n end_second && rule_starts rule n

-- the starts of a rule at or after second a and before b: those seconds, filtered
abbrev pub starts : Rule → (a b : ℕ) → List ℕ
starts rule a b = passing (is_start rule) a b
