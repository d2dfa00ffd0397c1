-- Rules with one sentence match and start alike.
use Rattle.std.proofs.Common.{◌≡◌, ℕ, ◌<◌, Bool, not, ◌&&◌, ◌||◌, nat_lt, List, pos, neg_ℤ, int_le, int_lt, ap, sym, ◌∙◌, arith, inl, inr}
use Rattle.std.proofs.lemmas.Bool.{and_left, cases_lt, le-ltb}
use Rattle.plan_clock.specs.declared.row.Change.{Change}
use Rattle.plan_clock.specs.declared.row.Row.{Row}
use Rattle.plan_clock.specs.Rows.{row_at, size}
use Rattle.plan_sets.specs.declared.civil.Civil.{Civil}
use Rattle.plan_sets.specs.Civil.{civil_fields}
use Rattle.plan_sets.specs.CivilLaws.{IsCivilOf-civil_fields, IsInRange-year}
use Rattle.plan_sets.specs.Limits.{end_second}
use Rattle.plan_match.specs.declared.cron.CronRule.{CronRule}
use Rattle.plan_match.specs.declared.event.Calendar.{Calendar}
use Rattle.plan_match.specs.EventMatch.{event_matches}
use Rattle.plan_match.specs.Heeds.{cron_heeds, event_heeds}
use Rattle.plan_match.specs.Match.{cron_matches}
use Rattle.plan_next.specs.Starts.{cron_starts, event_starts, is_shown, starts_in}
use Rattle.plan_words.specs.Laws.{Differ}
use Rattle.plan_words.specs.Tree.{Description, Scheduled}
use Rattle.plan_words.specs.Meaning.{description_matches}
use Rattle.plan_describe.specs.Said.{cron_said, event_said}
use Rattle.plan_describe.specs.Laws.{CronSentences, EventSentences, IsInYears, SameCron, SameEvent}
use Rattle.plan_describe.proofs.RuleLemmas.{cron_means, event_means}
use Rattle.plan_describe.proofs.FormLemmas.{cron_form, event_form}

-- the civil fields of a second are in the planner's years
in_years : (n : ℕ) → n < end_second → IsInYears (civil_fields n)
in_years n before =
    let fields = IsCivilOf-civil_fields n (omega arith) in
    let years = IsInRange-year n (civil_fields n) fields (omega arith) in
    let weekday = fields.weekday in
    record {
      year = (years.0.0, years.1 before);
      month = fields.date.1;
      day = fields.date.2;
      weekday = omega arith;
      time = fields.time;
    }

-- tests that agree in the planner's years agree on what a clock shows
shown_alike :
    (a b : Civil → Bool) → ((civil : Civil) → IsInYears civil → a civil ≡ b civil) → (m : ℕ) → is_shown a m ≡ is_shown b m
shown_alike a b same m =
    elim (cases_lt m end_second) as (λ _. is_shown a m ≡ is_shown b m) [
      | inl before ↦ ap (λ x. nat_lt m end_second && x) (same (civil_fields m) (in_years m before))
      | inr after ↦
          let none = le-ltb m end_second after in
          and_left (nat_lt m end_second) (a (civil_fields m)) none ∙ sym (and_left (nat_lt m end_second) (b (civil_fields m)) none)
    ]

heeds_alike : (a b : CronRule) (row : Row) → a.is_wildcard ≡ b.is_wildcard → cron_heeds a row ≡ cron_heeds b row
heeds_alike a b row same =
    ap (λ w. not w && ((int_le (neg_ℤ (pos 10_800)) (size row) && int_lt (size row) (pos 0)) || (int_lt (pos 0) (size row) && int_lt (size row) (pos 10_800))))
    same

-- the same rows, what is heeded, and what matches
starts_alike :
    (x y : Row) (g h : Bool) (a b : Civil → Bool) (n : ℕ) → x ≡ y → g ≡ h → ((civil : Civil) → IsInYears civil → a civil ≡ b civil) →
    starts_in x g (is_shown a) n ≡ starts_in y h (is_shown b) n
starts_alike x y g h a b n rows heeds same = λ i. starts_in (rows i) (heeds i) (λ m. shown_alike a b same m i) n

cron_starts_alike : (a b : CronRule) → SameCron a b → a.clock ≡ b.clock → a.is_wildcard ≡ b.is_wildcard → (n : ℕ) → cron_starts a n ≡ cron_starts b n
cron_starts_alike a b same clock wild n =
    let rows : row_at a.clock n ≡ row_at b.clock n = ap (λ (changes : List Change). row_at changes n) clock in
    starts_alike (row_at a.clock n) (row_at b.clock n) (cron_heeds a (row_at a.clock n)) (cron_heeds b (row_at b.clock n))
    (cron_matches a) (cron_matches b) n rows
    (ap (λ (row : Row). cron_heeds a row) rows ∙ heeds_alike a b (row_at b.clock n) wild) same

event_starts_alike : (a b : Calendar) → SameEvent a b → a.clock ≡ b.clock → (n : ℕ) → event_starts a n ≡ event_starts b n
event_starts_alike a b same clock n =
    let rows : row_at a.clock n ≡ row_at b.clock n = ap (λ (changes : List Change). row_at changes n) clock in
    starts_alike (row_at a.clock n) (row_at b.clock n) (event_heeds (row_at a.clock n)) (event_heeds (row_at b.clock n))
    (event_matches a) (event_matches b) n rows
    (ap (λ (row : Row). event_heeds row) rows) same

pub cron_sentences : Differ → CronSentences
cron_sentences differ a b a_full b_full same =
    let trees = differ (Scheduled (cron_said a)) (Scheduled (cron_said b)) (cron_form a a_full) (cron_form b b_full) same in
    let alike : SameCron a b = λ civil is.
    sym (cron_means a civil is) ∙ ap (λ (d : Description). description_matches d civil) trees ∙ cron_means b civil is in
    (alike, cron_starts_alike a b alike)

pub event_sentences : Differ → EventSentences
event_sentences differ a b a_zone b_zone a_full b_full a_is b_is same =
    let trees = differ (Scheduled (event_said a a_zone)) (Scheduled (event_said b b_zone)) (event_form a a_zone a_full a_is)
    (event_form b b_zone b_full b_is) same in
    let alike : SameEvent a b = λ civil is.
    sym (event_means a a_zone civil is) ∙ ap (λ (d : Description). description_matches d civil) trees ∙ event_means b b_zone civil is in
    (alike, event_starts_alike a b alike)
