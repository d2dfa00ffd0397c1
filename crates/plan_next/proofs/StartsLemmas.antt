-- The seconds that a pattern of a rule matches are the starts of the rule.
-- For `first_of_cron`, `next_of_cron`, `first_of_event`, `next_of_event`, KeptLemmas and EventsLemmas. The pattern
-- reads the day and the second of the day, the rule reads the civil fields: both see the same (`admits_moment-fields`).
use Rattle.std.proofs.Common.{◌≡◌, ℕ, ◌<◌, Bool, true, ◌&&◌, nat_lt, Bor, [], sym, ◌∙◌, arith}
use Rattle.std.proofs.lemmas.Bool.Decides.{nat_tests}
use Rattle.std.proofs.lemmas.Bool.{lt-ltb}
use Rattle.plan_sets.specs.Civil.{civil_fields, SameDate}
use Rattle.plan_sets.specs.declared.civil.Civil.{Civil}
use Rattle.plan_sets.specs.Limits.{end_second}
use Rattle.plan_sets.specs.CivilLaws.{SameDate-day, IsTime-civil_fields}
use Rattle.plan_match.specs.declared.cron.CronRule.{CronRule}
use Rattle.plan_match.specs.declared.rule.Rule.TheVariants as rule
use Rattle.plan_next.specs.declared.search.Pattern.{Pattern}
use Rattle.plan_next.specs.declared.search.Pattern.TheVariants.{Cron, Event}
use Rattle.plan_next.specs.Starts.{is_start}
use Rattle.plan_next.specs.UtcLaws.{cron_starts-utc, event_starts-utc}
use Rattle.plan_next.specs.Search.{admits_date, admits_hour, admits_minute, admits_moment, admits_second, clock_of, matches_shown, starts_by}

-- the pattern matches the date and each field of the time of day
abbrev pub admits_fields : Pattern → Civil → Bool
admits_fields pattern c =
    admits_date pattern c && (admits_hour pattern c.hour && (admits_minute pattern c.minute && admits_second pattern c.second))

-- whether a date matches depends only on its year, month, day and weekday
admits_date-same : (pattern : Pattern) (a b : Civil) → SameDate a b → admits_date pattern a ≡ admits_date pattern b
admits_date-same pattern a b given = grind (arith, nat_tests)

pub admits_moment-fields : (pattern : Pattern) (n : ℕ) → admits_moment pattern n ≡ admits_fields pattern (civil_fields n)
admits_moment-fields pattern n = grind (arith, nat_tests, IsTime-civil_fields, admits_date-same, SameDate-day)

-- a cron rule checks them in reverse order
turned : (date hour minute second : Bool) → (date && (hour && (minute && second))) ≡ (second && (minute && (hour && date)))
turned date hour minute second = grind arith

-- a pattern matches the seconds whose civil fields match
pub admits_moment-shown : (pattern : Pattern) (n : ℕ) → n < end_second → admits_moment pattern n ≡ matches_shown pattern n
admits_moment-shown (Cron cron) n before =
    let known : nat_lt n end_second ≡ true = lt-ltb _ _ before in
    let c = civil_fields n in
    let pattern = Cron cron in
    rw known (admits_moment-fields pattern n ∙ turned (admits_date pattern c) (admits_hour pattern c.hour)
    (admits_minute pattern c.minute) (admits_second pattern c.second))
admits_moment-shown (Event event) n before =
    let known : nat_lt n end_second ≡ true = lt-ltb _ _ before in
    rw known (admits_moment-fields (Event event) n)

-- without a clock the starts are the seconds whose fields match
pub starts_by-utc : (pattern : Pattern) (n : ℕ) → clock_of pattern ≡ [] → starts_by pattern n ≡ matches_shown pattern n
starts_by-utc (Cron cron) n none = cron_starts-utc cron.now n none
starts_by-utc (Event event) n none = event_starts-utc event.now n none

-- and those are the seconds that the pattern matches
pub starts_by-moment :
    (pattern : Pattern) (n : ℕ) → clock_of pattern ≡ [] → n < end_second → admits_moment pattern n ≡ starts_by pattern n
starts_by-moment pattern n none before = admits_moment-shown pattern n before ∙ sym (starts_by-utc pattern n none)

-- the starts of a cron rule's pattern are the rule's starts
pub is_start-by : (cron : Bor CronRule) (n : ℕ) → n < end_second → starts_by (Cron cron) n ≡ is_start (rule.Cron cron.now) n
is_start-by cron n before = grind (arith, nat_tests)

-- so if it has no clock, they are the seconds that its pattern matches
pub is_start-cron :
    (cron : Bor CronRule) (n : ℕ) → cron.now.clock ≡ [] → n < end_second → admits_moment (Cron cron) n ≡ is_start (rule.Cron cron.now) n
is_start-cron cron n none before = starts_by-moment (Cron cron) n none before ∙ is_start-by cron n before
