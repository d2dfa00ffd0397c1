-- When two rules are equal: they are of the same kind, and their parts are equal.
use Rattle.std.specs.Prelude.{◌≡◌, Bool, ◌&&◌, ◌==◌, true, false, Option, Some, None, refl, List}
use Rattle.std.specs.Bool.{Decides, beq}
use Rattle.std.specs.Cmp.{IsEquivalence, IsPartialEquivalence, partial_equiv_from_equiv, decided, booleans_Decides}
use Rattle.std.specs.Cmp.Lexicographic.{pointwise, pointwise_decides}
use Rattle.std.specs.Option.{option_eq}
use Rattle.std.proofs.Common.{ap, subst}
use Rattle.std.proofs.lemmas.Bool.Decides.{Decides-and, Decides-like}
use Rattle.plan_sets.specs.Values.{Values, listing}
use Rattle.plan_sets.specs.ValuesLaws.{Decides-listing}
use Rattle.plan_clock.specs.Equal.{same_changes, same_changes-Decides}
use Rattle.plan_match.specs.declared.cron.CronRule.{CronRule}
use Rattle.plan_match.specs.declared.event.DayCount.{DayCount}
use Rattle.plan_match.specs.declared.event.DayCount.TheVariants.{FromStart, FromEnd}
use Rattle.plan_match.specs.declared.event.Calendar.{Calendar}
use Rattle.plan_match.specs.declared.rule.Rule.{Rule}
use Rattle.plan_match.specs.declared.rule.Rule.TheVariants.{Cron, Never, Events}

-- two sets have the same base and the same members
abbrev pub same_set : Values → Values → Bool
same_set a b = pointwise ◌==◌ (listing a) (listing b)

-- two cron rules have the same parts
abbrev pub same_cron : CronRule → CronRule → Bool
same_cron a b =
    same_set a.minutes b.minutes
    && (same_set a.hours b.hours
    && (same_set a.month_days b.month_days
    && (same_set a.months b.months
    && (same_set a.week_days b.week_days
    && (beq a.month_days_restricted b.month_days_restricted
    && (beq a.week_days_restricted b.week_days_restricted
    && (beq a.is_wildcard b.is_wildcard && same_changes a.clock b.clock)))))))

-- the days are counted in the same direction
abbrev pub same_count : DayCount → DayCount → Bool
same_count FromStart FromStart = true
same_count FromStart FromEnd = false
same_count FromEnd FromStart = false
same_count FromEnd FromEnd = true

-- two calendar events have the same parts
abbrev pub same_calendar : Calendar → Calendar → Bool
same_calendar a b =
    same_set a.years b.years
    && (same_set a.months b.months
    && (same_set a.days b.days
    && (same_count a.day_count b.day_count
    && (same_set a.hours b.hours
    && (same_set a.minutes b.minutes
    && (same_set a.seconds b.seconds
    && (option_eq same_set a.weekdays b.weekdays
    && (beq a.names_zone b.names_zone && same_changes a.clock b.clock))))))))

-- two lists have the same events in the same order
abbrev pub same_events : List Calendar → List Calendar → Bool
same_events a b = pointwise same_calendar a b

-- two rules are of the same kind and have the same parts
abbrev pub same_rule : Rule → Rule → Bool
same_rule (Cron a) (Cron b) = same_cron a b
same_rule (Events a) (Events b) = same_events a b
same_rule Never Never = true
same_rule a b = false

-- all parts of two cron rules are equal, so the rules are equal
abbrev PartsAre : CronRule → CronRule → Type 0
PartsAre a b =
    (a.minutes ≡ b.minutes)
    × ((a.hours ≡ b.hours)
    × ((a.month_days ≡ b.month_days)
    × ((a.months ≡ b.months)
    × ((a.week_days ≡ b.week_days)
    × ((a.month_days_restricted ≡ b.month_days_restricted)
    × ((a.week_days_restricted ≡ b.week_days_restricted)
    × ((a.is_wildcard ≡ b.is_wildcard) × (a.clock ≡ b.clock))))))))

cron_from_parts : (a b : CronRule) → PartsAre a b → a ≡ b
cron_from_parts a b same = λ i. record {
  minutes = same.0 i;
  hours = same.1.0 i;
  month_days = same.1.1.0 i;
  months = same.1.1.1.0 i;
  week_days = same.1.1.1.1.0 i;
  month_days_restricted = same.1.1.1.1.1.0 i;
  week_days_restricted = same.1.1.1.1.1.1.0 i;
  is_wildcard = same.1.1.1.1.1.1.1.0 i;
  clock = same.1.1.1.1.1.1.1.1 i;
}

parts_from_cron : (a b : CronRule) → a ≡ b → PartsAre a b
parts_from_cron a b same = subst (PartsAre a) same (refl, (refl, (refl, (refl, (refl, (refl, (refl, (refl, refl))))))))

-- the test of two cron rules decides whether they are equal
pub same_cron-Decides : (a b : CronRule) → Decides (same_cron a b) (a ≡ b)
same_cron-Decides a b =
    Decides-like _ (cron_from_parts a b) (parts_from_cron a b)
    (Decides-and _ _ (Decides-listing a.minutes b.minutes)
    (Decides-and _ _ (Decides-listing a.hours b.hours)
    (Decides-and _ _ (Decides-listing a.month_days b.month_days)
    (Decides-and _ _ (Decides-listing a.months b.months)
    (Decides-and _ _ (Decides-listing a.week_days b.week_days)
    (Decides-and _ _ (booleans_Decides a.month_days_restricted b.month_days_restricted)
    (Decides-and _ _ (booleans_Decides a.week_days_restricted b.week_days_restricted)
    (Decides-and _ _ (booleans_Decides a.is_wildcard b.is_wildcard) (same_changes-Decides a.clock b.clock)))))))))

same_count-Decides : (a b : DayCount) → Decides (same_count a b) (a ≡ b)
same_count-Decides FromStart FromStart = (λ e. refl, λ e. refl)
same_count-Decides FromStart FromEnd = (λ e. cc, λ e. cc)
same_count-Decides FromEnd FromStart = (λ e. cc, λ e. cc)
same_count-Decides FromEnd FromEnd = (λ e. refl, λ e. refl)

maybe-Decides : (a b : Option Values) → Decides (option_eq same_set a b) (a ≡ b)
maybe-Decides None None = (λ e. refl, λ e. refl)
maybe-Decides None (Some b) = (λ e. cc, λ e. cc)
maybe-Decides (Some a) None = (λ e. cc, λ e. cc)
maybe-Decides (Some a) (Some b) = Decides-like _ (ap Some) (λ e. cc) (Decides-listing a b)

-- all parts of two calendar events are equal, so the events are equal
abbrev CalendarPartsAre : Calendar → Calendar → Type 0
CalendarPartsAre a b =
    (a.years ≡ b.years)
    × ((a.months ≡ b.months)
    × ((a.days ≡ b.days)
    × ((a.day_count ≡ b.day_count)
    × ((a.hours ≡ b.hours)
    × ((a.minutes ≡ b.minutes)
    × ((a.seconds ≡ b.seconds)
    × ((a.weekdays ≡ b.weekdays)
    × ((a.names_zone ≡ b.names_zone) × (a.clock ≡ b.clock)))))))))

calendar_from_parts : (a b : Calendar) → CalendarPartsAre a b → a ≡ b
calendar_from_parts a b same = λ i. record {
  years = same.0 i;
  months = same.1.0 i;
  days = same.1.1.0 i;
  day_count = same.1.1.1.0 i;
  hours = same.1.1.1.1.0 i;
  minutes = same.1.1.1.1.1.0 i;
  seconds = same.1.1.1.1.1.1.0 i;
  weekdays = same.1.1.1.1.1.1.1.0 i;
  names_zone = same.1.1.1.1.1.1.1.1.0 i;
  clock = same.1.1.1.1.1.1.1.1.1 i;
}

parts_from_calendar : (a b : Calendar) → a ≡ b → CalendarPartsAre a b
parts_from_calendar a b same = subst (CalendarPartsAre a) same (refl, (refl, (refl, (refl, (refl, (refl, (refl, (refl, (refl, refl)))))))))

-- the test of two calendar events decides whether they are equal
pub same_calendar-Decides : (a b : Calendar) → Decides (same_calendar a b) (a ≡ b)
same_calendar-Decides a b =
    Decides-like _ (calendar_from_parts a b) (parts_from_calendar a b)
    (Decides-and _ _ (Decides-listing a.years b.years)
    (Decides-and _ _ (Decides-listing a.months b.months)
    (Decides-and _ _ (Decides-listing a.days b.days)
    (Decides-and _ _ (same_count-Decides a.day_count b.day_count)
    (Decides-and _ _ (Decides-listing a.hours b.hours)
    (Decides-and _ _ (Decides-listing a.minutes b.minutes)
    (Decides-and _ _ (Decides-listing a.seconds b.seconds)
    (Decides-and _ _ (maybe-Decides a.weekdays b.weekdays)
    (Decides-and _ _ (booleans_Decides a.names_zone b.names_zone) (same_changes-Decides a.clock b.clock))))))))))

-- the test of two lists of events decides whether they are equal
pub same_events-Decides : (a b : List Calendar) → Decides (same_events a b) (a ≡ b)
same_events-Decides a b = pointwise_decides same_calendar-Decides a b

pub same_events_equivalence : IsEquivalence same_events
same_events_equivalence = decided same_events same_events-Decides

pub same_events_laws : IsPartialEquivalence same_events
same_events_laws = partial_equiv_from_equiv same_events_equivalence

-- the test of two rules decides whether they are equal
pub same_rule-Decides : (a b : Rule) → Decides (same_rule a b) (a ≡ b)
same_rule-Decides (Cron a) (Cron b) = Decides-like _ (ap Cron) (λ e. cc) (same_cron-Decides a b)
same_rule-Decides (Cron a) (Events b) = (λ e. cc, λ e. cc)
same_rule-Decides (Events a) (Cron b) = (λ e. cc, λ e. cc)
same_rule-Decides (Events a) (Events b) = Decides-like _ (ap Events) (λ e. cc) (same_events-Decides a b)
same_rule-Decides (Cron a) Never = (λ e. cc, λ e. cc)
same_rule-Decides (Events a) Never = (λ e. cc, λ e. cc)
same_rule-Decides Never (Cron b) = (λ e. cc, λ e. cc)
same_rule-Decides Never (Events b) = (λ e. cc, λ e. cc)
same_rule-Decides Never Never = (λ e. refl, λ e. refl)

-- so the test is an equivalence
pub same_rule_equivalence : IsEquivalence same_rule
same_rule_equivalence = decided same_rule same_rule-Decides

pub same_rule_laws : IsPartialEquivalence same_rule
same_rule_laws = partial_equiv_from_equiv same_rule_equivalence
