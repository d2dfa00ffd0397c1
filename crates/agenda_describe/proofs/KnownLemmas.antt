-- Cron rules with the same fields are said alike.
use Rattle.std.proofs.Common.{◌≡◌, true, Decides}
use Rattle.std.specs.Cmp.{booleans_Decides}
use Rattle.std.proofs.lemmas.Bool.Decides.{Decides-and}
use Rattle.plan_sets.specs.ValuesLaws.{Decides-listing}
use Rattle.plan_match.specs.declared.cron.CronRule.{CronRule}
use Rattle.plan_words.specs.Sentence.{sentence_of}
use Rattle.plan_words.specs.Tree.{Scheduled}
use Rattle.plan_describe.specs.Said.{cron_said}
use Rattle.agenda_describe.specs.Sentences.{same_fields}

abbrev FieldsAre : CronRule → CronRule → Type 0
FieldsAre a b =
    (a.minutes ≡ b.minutes)
    × ((a.hours ≡ b.hours)
    × ((a.month_days ≡ b.month_days)
    × ((a.months ≡ b.months)
    × ((a.week_days ≡ b.week_days)
    × ((a.month_days_restricted ≡ b.month_days_restricted) × (a.week_days_restricted ≡ b.week_days_restricted))))))

fields_Decides : (a b : CronRule) → Decides (same_fields a b) (FieldsAre a b)
fields_Decides a b =
    Decides-and _ _ (Decides-listing a.minutes b.minutes)
    (Decides-and _ _ (Decides-listing a.hours b.hours)
    (Decides-and _ _ (Decides-listing a.month_days b.month_days)
    (Decides-and _ _ (Decides-listing a.months b.months)
    (Decides-and _ _ (Decides-listing a.week_days b.week_days)
    (Decides-and _ _ (booleans_Decides a.month_days_restricted b.month_days_restricted)
    (booleans_Decides a.week_days_restricted b.week_days_restricted))))))

pub said_alike : (a b : CronRule) → same_fields a b ≡ true → sentence_of (Scheduled (cron_said a)) ≡ sentence_of (Scheduled (cron_said b))
said_alike a b same =
    let parts = (fields_Decides a b).0 same in
    λ i. sentence_of (Scheduled (cron_said (record {
      minutes = parts.0 i;
      hours = parts.1.0 i;
      month_days = parts.1.1.0 i;
      months = parts.1.1.1.0 i;
      week_days = parts.1.1.1.1.0 i;
      month_days_restricted = parts.1.1.1.1.1.0 i;
      week_days_restricted = parts.1.1.1.1.1.1 i;
      is_wildcard = a.is_wildcard;
      clock = a.clock;
    })))
