-- The days of a month that match one of a cron rule's two day fields.
-- For `first_of_either`: within a month the fields of a day follow from its number, and the first day of either field
-- is the earlier of the two fields' first days.
use Rattle.std.proofs.Common.{◌≡◌, ℕ, ◌+◌, ◌%◌, ◌<◌, ◌≤◌, Bool, true, false, ◌&&◌, ◌||◌, inl, inr, refl, ap, ◌∙◌, arith}
use Rattle.std.proofs.lemmas.Bool.{cases_lt, or_right}
use Rattle.plan_sets.specs.declared.civil.Civil.{Civil}
use Rattle.plan_sets.specs.MonthsLaws.{civil_fields-of_month}
use Rattle.plan_sets.specs.Values.{has_value}
use Rattle.plan_match.specs.declared.cron.CronRule.{CronRule}
use Rattle.plan_match.specs.Match.{day_matches}
use Rattle.plan_next.specs.declared.month.Month.{Month}
use Rattle.plan_next.specs.Next.{IsFirstOrEnd}
use Rattle.plan_next.specs.Search.{cron_admits_day, has_month_day, has_week_day, IsMonth}
use Rattle.plan_next.proofs.SearchLemmas.{ends_in_years}

-- a rule with two restricted day fields
pub record HasBoth (rule : CronRule) : Type 0 where
  pub month_days : rule.month_days_restricted ≡ true
  pub week_days : rule.week_days_restricted ≡ true

-- the rule matches the month of the day, and one of its day fields matches the day
abbrev pub either_admits : CronRule → Month → ℕ → Bool
either_admits rule month day =
    has_value rule.months (month.number % 12 + 1)
    && (has_month_day rule.month_days month.first day || has_week_day rule.week_days day)

pub admits-either :
    (rule : CronRule) (month : Month) (day : ℕ) → HasBoth rule → IsMonth month → month.first ≤ day → day < month.end →
    cron_admits_day rule day ≡ either_admits rule month day
admits-either rule month day both is from to =
    let known = ends_in_years month is in
    let last = is.to in
    let length = is.end_is in
    let by_month = both.month_days in
    let by_week = both.week_days in
    let date = civil_fields-of_month month.number month.first day (omega arith) is.first_day from (omega arith) (omega arith) in
    let week : ((day + 3) % 7 + 1) % 7 ≡ (day + 4) % 7 = omega arith in
    ap (λ (civil : Civil). day_matches rule civil) date ∙ rw (by_month, by_week, week) refl

-- if the month doesn't match, none of its days does
pub none_of_either :
    (rule : CronRule) (month : Month) (day : ℕ) → HasBoth rule → IsMonth month →
    has_value rule.months (month.number % 12 + 1) ≡ false → month.first ≤ day → day < month.end → cron_admits_day rule day ≡ false
none_of_either rule month day both is none from to = admits-either rule month day both is from to ∙ rw none refl

-- the first day that the day of the week matches, before the first that the day of the month matches, or else that one
pub first_of_either :
    (rule : CronRule) (month : Month) (from until place day : ℕ) → HasBoth rule → IsMonth month →
    has_value rule.months (month.number % 12 + 1) ≡ true → month.first ≤ from → until ≤ month.end →
    IsFirstOrEnd (has_month_day rule.month_days month.first) from until place → IsFirstOrEnd (has_week_day rule.week_days) from place day →
    IsFirstOrEnd (cron_admits_day rule) from until day
first_of_either rule month from until place day both is admitted low high by_month by_week =
    let to = by_month.to in
    let until_place = by_week.to in
    let after = by_week.from in
    record {
      from = by_week.from;
      to = omega arith;
      none = λ n start before.
          let no_month_day = by_month.none n start (omega arith) in
          let no_week_day = by_week.none n start before in
          admits-either rule month n both is (omega arith) (omega arith) ∙ rw (admitted, no_month_day, no_week_day) refl;
      is = λ within. admits-either rule month day both is (omega arith) (omega arith) ∙ rw admitted (elim (cases_lt day place) [
        | inl earlier ↦ or_right (has_month_day rule.month_days month.first day) _ (by_week.is earlier)
        | inr here ↦
            let same : day ≡ place = omega arith in
            rw (same, by_month.is (omega arith)) refl
      ]);
    }
