-- A cron rule's first start is at the first minute if the rule starts then. After a start, the next one is at the next
-- of its minutes in the hour.
-- For `first_of_cron` and `add_minutes`. The only second of a minute that can match is its first.
use Rattle.std.proofs.Common.{◌≡◌, ℕ, ◌+◌, ◌-◌, ◌*◌, ◌/◌, ◌%◌, ◌<◌, true, Bor, List, arith}
use Rattle.std.proofs.lemmas.Bool.Decides.{nat_tests}
use Rattle.std.specs.Int.{div_ceil}
use Rattle.std.specs.Prelude.{slice_index}
use Rattle.plan_sets.specs.Values.{has_value}
use Rattle.plan_match.specs.declared.cron.CronRule.{CronRule}
use Rattle.plan_next.specs.declared.search.Pattern.TheVariants.{Cron}
use Rattle.plan_next.specs.Next.{starts_at_minute, AreNextMinutes, IsFirstOrEnd}
use Rattle.plan_next.specs.Search.{admits_moment}
use Rattle.plan_next.specs.Starts.{IsLeastIn}

-- the minute of a matching second is one of the rule's
pub minute-admitted :
    (cron : Bor CronRule) (n : ℕ) → admits_moment (Cron cron) n ≡ true → has_value cron.now.minutes (n / 60 % 60) ≡ true
minute-admitted cron n admitted = grind (arith, nat_tests)

-- so it is the next one, if the minutes between aren't the rule's
pub IsLeastIn-minute :
    (cron : Bor CronRule) (n next later end : ℕ) → admits_moment (Cron cron) n ≡ true →
    IsFirstOrEnd (has_value cron.now.minutes) (n / 60 % 60 + 1) 60 next → next < 60 → later ≡ n + (next - n / 60 % 60) * 60 → later < end →
    IsLeastIn (admits_moment (Cron cron)) (n + 1) end later
IsLeastIn-minute cron n next later end admitted first room is before = grind (arith, nat_tests)

-- the next minute is kept for the minute of a start
pub next-kept :
    (cron : Bor CronRule) (kept : List ℕ) (n minute : ℕ) → AreNextMinutes cron.now.minutes kept →
    admits_moment (Cron cron) n ≡ true → minute ≡ n / 60 % 60 →
    IsFirstOrEnd (has_value cron.now.minutes) (minute + 1) 60 (slice_index kept minute)
next-kept cron kept n minute keeps admitted is = grind (arith, nat_tests, minute-admitted)

-- it is the first match at or after a second if no minute begins between them
pub IsLeastIn-first_minute :
    (cron : Bor CronRule) (from minute end : ℕ) → minute ≡ div_ceil from 60 → minute * 60 < end →
    starts_at_minute cron.now minute ≡ true → IsLeastIn (admits_moment (Cron cron)) from end (minute * 60)
IsLeastIn-first_minute cron from minute end is before starts = grind (arith, nat_tests)
