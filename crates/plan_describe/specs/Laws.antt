-- A description says when its rule starts a job, and a sentence says it of one rule alone.
use Rattle.std.specs.Prelude.{◌≡◌, ℕ, ◌<◌, true, IfSome, List, Option}
use Rattle.std.specs.Int.{IsInRange}
use Rattle.plan_sets.specs.declared.civil.Civil.{Civil}
use Rattle.plan_sets.specs.Civil.{length_of_month, IsTimeOfDay}
use Rattle.plan_sets.specs.Limits.{first_year, last_year}
use Rattle.plan_sets.specs.Values.{Values as SetOfValues, has_value}
use Rattle.plan_match.specs.declared.cron.CronRule.{CronRule}
use Rattle.plan_match.specs.declared.event.Calendar.{Calendar}
use Rattle.plan_match.specs.EventMatch.{event_matches}
use Rattle.plan_match.specs.Match.{cron_matches}
use Rattle.plan_match.specs.WithinLimits.{CronIsWithinLimits, EventIsWithinLimits}
use Rattle.plan_next.specs.Starts.{cron_starts, event_starts}
use Rattle.plan_words.specs.Tree.{Scheduled}
use Rattle.plan_words.specs.Meaning.{description_matches}
use Rattle.plan_words.specs.Sentence.{sentence_of}
use Rattle.plan_words.specs.WellFormed.{IsWellFormed, IsZone}
use Rattle.plan_describe.specs.Said.{cron_said, event_said}

-- the civil fields of a second in the planner's years
pub record IsInYears (civil : Civil) : Type 0 where
  pub year : IsInRange first_year last_year civil.year
  pub month : IsInRange 1 12 civil.month
  pub day : IsInRange 1 (length_of_month civil.year civil.month) civil.day
  pub weekday : civil.weekday < 7
  pub time : IsTimeOfDay civil.hour civil.minute civil.second

-- the description of a cron rule matches exactly when the rule does
abbrev pub CronMeans : Type 0
CronMeans = (rule : CronRule) (civil : Civil) → IsInYears civil → description_matches (Scheduled (cron_said rule)) civil ≡ cron_matches rule civil

-- the description of an event matches exactly when the event does
abbrev pub EventMeans : Type 0
EventMeans =
    (event : Calendar) (zone : Option (List ℕ)) (civil : Civil) → IsInYears civil →
    description_matches (Scheduled (event_said event zone)) civil ≡ event_matches event civil

-- ---- sentences

-- the description of a cron rule, whose fields have values within their limits as in every rule that is parsed, has a sentence that
-- is read back
abbrev pub CronIsWellFormed : Type 0
CronIsWellFormed = (rule : CronRule) → CronIsWithinLimits rule → IsWellFormed (Scheduled (cron_said rule))

-- the same of an event
abbrev pub EventIsWellFormed : Type 0
EventIsWellFormed =
    (event : Calendar) (zone : Option (List ℕ)) → EventIsWithinLimits event → IsZone zone → IsWellFormed (Scheduled (event_said event zone))

-- two cron rules with one sentence match the same civil fields
abbrev pub SameCron : CronRule → CronRule → Type 0
SameCron a b = (civil : Civil) → IsInYears civil → cron_matches a civil ≡ cron_matches b civil

-- two events with one sentence match the same civil fields
abbrev pub SameEvent : Calendar → Calendar → Type 0
SameEvent a b = (civil : Civil) → IsInYears civil → event_matches a civil ≡ event_matches b civil

-- in one zone they also have the same starts. Whether a cron rule was written with a wildcard counts only around clock changes,
-- and no sentence says it
abbrev pub SameCronStarts : CronRule → CronRule → Type 0
SameCronStarts a b = a.clock ≡ b.clock → a.is_wildcard ≡ b.is_wildcard → (n : ℕ) → cron_starts a n ≡ cron_starts b n

-- in one zone they also have the same starts
abbrev pub SameEventStarts : Calendar → Calendar → Type 0
SameEventStarts a b = a.clock ≡ b.clock → (n : ℕ) → event_starts a n ≡ event_starts b n

-- cron rules with one sentence match and start alike
abbrev pub CronSentences : Type 0
CronSentences =
    (a b : CronRule) → CronIsWithinLimits a → CronIsWithinLimits b →
    sentence_of (Scheduled (cron_said a)) ≡ sentence_of (Scheduled (cron_said b)) → SameCron a b × SameCronStarts a b

-- events with one sentence match and start alike
abbrev pub EventSentences : Type 0
EventSentences =
    (a b : Calendar) (a_zone b_zone : Option (List ℕ)) → EventIsWithinLimits a → EventIsWithinLimits b → IsZone a_zone → IsZone b_zone →
    sentence_of (Scheduled (event_said a a_zone)) ≡ sentence_of (Scheduled (event_said b b_zone)) → SameEvent a b × SameEventStarts a b
