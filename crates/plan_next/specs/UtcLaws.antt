-- Without a clock the starts are the seconds whose civil fields match.
use Rattle.std.proofs.Common.{◌≡◌, ℕ, Bool, true, false, not, ◌&&◌, ◌||◌, List, [], ◌∷◌, nat_lt, refl, ap, sym, ◌∙◌, add-zero}
use Rattle.std.specs.List.{list_any}
use Rattle.std.proofs.lemmas.Bool.{and_right}
use Rattle.plan_clock.specs.declared.row.Change.{Change}
use Rattle.plan_clock.specs.declared.row.Row.{Row}
use Rattle.plan_clock.specs.Rows.{row_at, utc}
use Rattle.plan_sets.specs.Civil.{civil_fields}
use Rattle.plan_sets.specs.Limits.{end_second}
use Rattle.plan_match.specs.declared.cron.CronRule.{CronRule}
use Rattle.plan_match.specs.declared.event.Calendar.{Calendar}
use Rattle.plan_match.specs.declared.rule.Rule.{Rule}
use Rattle.plan_match.specs.declared.rule.Rule.TheVariants.{Cron, Never, Events}
use Rattle.plan_match.specs.EventMatch.{event_matches, some_event_matches}
use Rattle.plan_match.specs.Heeds.{cron_heeds, event_heeds}
use Rattle.plan_match.specs.Match.{cron_matches, rule_matches}
use Rattle.plan_next.specs.Starts.{cron_starts, event_starts, is_shown, is_start, starts_in}

-- no event of the list has a clock
abbrev pub HaveNoClock : List Calendar → Type 0
HaveNoClock [] = Unit {0}
HaveNoClock (event ∷ events) = (event.clock ≡ []) × HaveNoClock events

-- the rule starts by UTC: it has no clock
abbrev pub HasNoClock : Rule → Type 0
HasNoClock (Cron rule) = rule.clock ≡ []
HasNoClock Never = Unit {0}
HasNoClock (Events events) = HaveNoClock events

row_at-utc : (n : ℕ) → row_at [] n ≡ utc
unfolding row_at
row_at-utc n = refl

-- in the row of UTC the starts are the seconds that pass the test
pub starts_in-utc : (heeds : Bool) (test : ℕ → Bool) (n : ℕ) → heeds ≡ false → starts_in utc heeds test n ≡ test n
unfolding starts_in
starts_in-utc heeds test n none = rw none (ap test (add-zero n))

pub cron_starts-utc : (rule : CronRule) (n : ℕ) → rule.clock ≡ [] → cron_starts rule n ≡ is_shown (cron_matches rule) n
cron_starts-utc rule n none =
    let row : row_at rule.clock n ≡ utc = ap (λ (rows : List Change). row_at rows n) none ∙ row_at-utc n in
    ap (λ (row : Row). starts_in row (cron_heeds rule row) (is_shown (cron_matches rule)) n) row
    ∙ starts_in-utc (cron_heeds rule utc) (is_shown (cron_matches rule)) n (and_right (not rule.is_wildcard) false refl)

pub event_starts-utc : (event : Calendar) (n : ℕ) → event.clock ≡ [] → event_starts event n ≡ is_shown (event_matches event) n
event_starts-utc event n none =
    let row : row_at event.clock n ≡ utc = ap (λ (rows : List Change). row_at rows n) none ∙ row_at-utc n in
    ap (λ (row : Row). starts_in row (event_heeds row) (is_shown (event_matches event)) n) row
    ∙ starts_in-utc false (is_shown (event_matches event)) n refl

-- a condition that all elements of a list share is tested once for the whole list
both_or : (a b c : Bool) → ((a && b) || (a && c)) ≡ (a && (b || c))
both_or true b c = refl
both_or false b c = refl

none_of_none : (a : Bool) → (a && false) ≡ false
none_of_none true = refl
none_of_none false = refl

events_start-utc :
    (events : List Calendar) (n : ℕ) → HaveNoClock events →
    list_any (λ event. event_starts event n) events ≡ (nat_lt n end_second && some_event_matches events (civil_fields n))
events_start-utc [] n none = sym (none_of_none (nat_lt n end_second))
events_start-utc (event ∷ events) n (none, rest) =
    let known = nat_lt n end_second in
    let first = event_starts-utc event n none in
    let others = events_start-utc events n rest in
    (λ i. first i || others i)
    ∙ both_or known (event_matches event (civil_fields n)) (some_event_matches events (civil_fields n))

twice : (a b : Bool) → (a && (a && b)) ≡ (a && b)
twice true b = refl
twice false b = refl

-- the starts of a rule without clocks
pub is_start-utc : (rule : Rule) (n : ℕ) → HasNoClock rule → is_start rule n ≡ (nat_lt n end_second && rule_matches rule (civil_fields n))
is_start-utc (Cron rule) n none =
    ap (λ b. nat_lt n end_second && b) (cron_starts-utc rule n none) ∙ twice (nat_lt n end_second) (cron_matches rule (civil_fields n))
is_start-utc Never n none = refl
is_start-utc (Events events) n none =
    ap (λ b. nat_lt n end_second && b) (events_start-utc events n none)
    ∙ twice (nat_lt n end_second) (some_event_matches events (civil_fields n))
