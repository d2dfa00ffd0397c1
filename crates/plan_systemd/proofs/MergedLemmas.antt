-- Why events with the same seconds, far enough apart, have no close starts by UTC.
-- For `have_seconds` and `are_spaced`. A start of an event has one of its seconds, so two close starts would have close
-- seconds.
use Rattle.std.proofs.Common.{◌≡◌, ℕ, ◌+◌, ◌-◌, ◌<◌, ◌≤◌, ◌%◌, zero, suc, Bool, cond, true, false, not, ◌&&◌, ◌||◌, List, [], ◌∷◌, length, map, filter, None, Some, refl, ap, sym, ◌∙◌, arith, inl, inr}
use Rattle.std.specs.Prelude.{if◌then◌else◌, is_some, nat_lt}
use Rattle.std.proofs.lemmas.Bool.{and_parts, cases_lt}
use Rattle.std.specs.List.{list_all, list_any, range_with_len, slice_get}
use Rattle.plan_sets.specs.Values.{Values as SetOfValues, has_value}
use Rattle.plan_sets.specs.declared.civil.Civil.{Civil}
use Rattle.plan_sets.specs.Civil.{civil_fields}
use Rattle.plan_sets.specs.Limits.{end_second}
use Rattle.plan_clock.specs.declared.row.Change.{Change}
use Rattle.plan_match.specs.declared.event.Calendar.{Calendar}
use Rattle.plan_match.specs.declared.rule.Rule.{Rule}
use Rattle.plan_match.specs.declared.rule.Rule.TheVariants.{Events}
use Rattle.plan_match.specs.EventMatch.{event_day_matches, event_matches, some_event_matches}
use Rattle.plan_match.specs.Zone.{event_in, rule_in}
use Rattle.plan_next.specs.Close.{has_close_starts, has_start}
use Rattle.plan_next.specs.Starts.{NoneIn, is_start, passing}
use Rattle.plan_next.specs.StartsLaws.{passing-first}
use Rattle.plan_next.specs.UtcLaws.{HaveNoClock, is_start-utc}
use Rattle.plan_systemd.specs.Merged.{are_apart, has_near, HasSeconds, HaveSeconds}

-- each of the first i events has the seconds, and no clock
abbrev pub HaveBelow : SetOfValues → List Calendar → ℕ → Type 0
HaveBelow seconds events i = (k : ℕ) (event : Calendar) → k < i → slice_get events k ≡ Some event → HasSeconds seconds event

pub all_have : (seconds : SetOfValues) (events : List Calendar) → HaveBelow seconds events (length events) → HaveSeconds seconds events
all_have seconds [] below = tt
all_have seconds (event ∷ events) below =
    (below 0 event (omega arith) refl, all_have seconds events (λ k other lt is. below (suc k) other (omega arith) is))

-- ---- in UTC

have_no_clock : (seconds : SetOfValues) (events : List Calendar) → HaveSeconds seconds events → HaveNoClock events
have_no_clock seconds [] have = tt
have_no_clock seconds (event ∷ events) (own, rest) = (own.0, have_no_clock seconds events rest)

has_by_clock :
    (named : Bool) (seconds : SetOfValues) (event : Calendar) → HasSeconds seconds event →
    HasSeconds seconds (if named then event else record event { clock = [] })
has_by_clock true seconds event own = own
has_by_clock false seconds event own = (refl, own.1)

have_in_utc : (seconds : SetOfValues) (events : List Calendar) → HaveSeconds seconds events → HaveSeconds seconds (map (event_in []) events)
have_in_utc seconds [] have = tt
have_in_utc seconds (event ∷ events) (own, rest) = (has_by_clock event.names_zone seconds event own, have_in_utc seconds events rest)

-- ---- a start has one of the seconds

first_or : {A : Type 0} (a b : Bool) → (a || b) ≡ true → (a ≡ true → A) → (b ≡ true → A) → A
first_or true b is first later = first refl
first_or false b is first later = later is

second_of_event : (event : Calendar) (civil : Civil) → event_matches event civil ≡ true → has_value event.seconds civil.second ≡ true
second_of_event event civil is =
    let times = (and_parts (event_day_matches event civil) _ is).1 in
    let rest = (and_parts (has_value event.hours civil.hour) _ times).1 in
    (and_parts (has_value event.minutes civil.minute) _ rest).1

second_of_some :
    (seconds : SetOfValues) (events : List Calendar) (civil : Civil) → HaveSeconds seconds events →
    some_event_matches events civil ≡ true → has_value seconds civil.second ≡ true
second_of_some seconds [] civil have is = cc
second_of_some seconds (event ∷ events) civil (own, rest) is =
    first_or (event_matches event civil) (some_event_matches events civil) is
    (λ here. ap (λ (s : SetOfValues). has_value s civil.second) (sym own.1) ∙ second_of_event event civil here)
    (λ later. second_of_some seconds events civil rest later)

second_shown : (n : ℕ) → (civil_fields n).second ≡ n % 60
unfolding civil_fields
second_shown n = omega arith

second_of_start :
    (seconds : SetOfValues) (events : List Calendar) (n : ℕ) → HaveSeconds seconds events → is_start (Events events) n ≡ true →
    has_value seconds (n % 60) ≡ true
second_of_start seconds events n have is =
    let matches = (and_parts (nat_lt n end_second) _ (sym (is_start-utc (Events events) n (have_no_clock seconds events have)) ∙ is)).1 in
    ap (has_value seconds) (sym (second_shown n)) ∙ second_of_some seconds events (civil_fields n) have matches

-- ---- the seconds are apart

all_in_range : (test : ℕ → Bool) (a n s : ℕ) → list_all test (range_with_len a n) ≡ true → a ≤ s → s < a + n → test s ≡ true
all_in_range test a zero s all low high = absurd (omega arith)
all_in_range test a (suc n) s all low high =
    let parts = and_parts (test a) (list_all test (range_with_len (a + 1) n)) all in
    elim (cases_lt a s) [
      | inl later ↦ all_in_range test (a + 1) n s parts.1 (omega arith) (omega arith)
      | inr here ↦
          let same : s ≡ a = omega arith in
          rw same parts.0
    ]

none_of_or : (a b : Bool) → (a || b) ≡ false → (a ≡ false) × (b ≡ false)
none_of_or true b is = cc
none_of_or false b is = (refl, is)

none_in_range : (test : ℕ → Bool) (a n s : ℕ) → list_any test (range_with_len a n) ≡ false → a ≤ s → s < a + n → test s ≡ false
none_in_range test a zero s none low high = absurd (omega arith)
none_in_range test a (suc n) s none low high =
    let parts = none_of_or (test a) (list_any test (range_with_len (a + 1) n)) none in
    elim (cases_lt a s) [
      | inl later ↦ none_in_range test (a + 1) n s parts.1 (omega arith) (omega arith)
      | inr here ↦
          let same : s ≡ a = omega arith in
          rw same parts.0
    ]

alone : (a b : Bool) → not (a && b) ≡ true → a ≡ true → b ≡ false
alone true false left here = refl
alone true true left here = cc left
alone false b left here = cc here

implied : (a b : Bool) → (a ≡ true → b ≡ true) → b ≡ false → a ≡ false
implied true b gives none = cc (gives refl)
implied false b gives none = refl

-- no start is near another one
none_near :
    (seconds : SetOfValues) (events : List Calendar) (apart s : ℕ) → HaveSeconds seconds events → apart ≤ 60 →
    are_apart seconds apart ≡ true → is_start (Events events) s ≡ true → NoneIn (is_start (Events events)) (s + 1) (s + apart)
none_near seconds events apart s have few are is n low high =
    let test : ℕ → Bool = λ s. not (has_value seconds s && has_near seconds apart s) in
    let here = all_in_range test 0 60 (s % 60) are (omega arith) (omega arith) in
    let own = second_of_start seconds events s have is in
    let none = alone (has_value seconds (s % 60)) (has_near seconds apart (s % 60)) here own in
    let off = none_in_range (λ k. has_value seconds ((s % 60 + k) % 60)) 1 (apart - 1) (n - s) none (omega arith) (omega arith) in
    let same : (s % 60 + (n - s)) % 60 ≡ n % 60 = omega arith in
    implied (is_start (Events events) n) (has_value seconds (n % 60)) (second_of_start seconds events n have)
    (ap (has_value seconds) (sym same) ∙ off)

-- ---- all starts

kept_or_not : (f : ℕ → Bool) (b : Bool) (x : ℕ) (xs : List ℕ) → (b ≡ true → f x ≡ false) → list_any f xs ≡ false → list_any f (cond b (x ∷ xs) xs) ≡ false
kept_or_not f true x xs off none = ap (λ b. b || list_any f xs) (off refl) ∙ none
kept_or_not f false x xs off none = none

none_of_filter : (test f : ℕ → Bool) (xs : List ℕ) → ((s : ℕ) → test s ≡ true → f s ≡ false) → list_any f (filter test xs) ≡ false
none_of_filter test f [] off = refl
none_of_filter test f (x ∷ xs) off = kept_or_not f (test x) x (filter test xs) (off x) (none_of_filter test f xs off)

none_of_passing : (test f : ℕ → Bool) (a b : ℕ) → ((s : ℕ) → test s ≡ true → f s ≡ false) → list_any f (passing test a b) ≡ false
unfolding passing
none_of_passing test f a b off = none_of_filter test f (range_with_len a (b - a)) off

-- no start is less than a second after another one
pub no_start_within : (rule : Rule) (apart : ℕ) → apart < 2 → (a b : ℕ) → has_close_starts rule a b apart ≡ false
no_start_within rule apart few a b =
    none_of_passing (is_start rule) (λ s. has_start rule (s + 1) (s + apart)) a b
    (λ s is. ap is_some (sym (passing-first (is_start rule) (s + 1) (s + apart) None (λ n low high. absurd (omega arith)))))

-- events with the same seconds, by UTC
pub no_close_starts :
    (seconds : SetOfValues) (events : List Calendar) (clock : List Change) (apart : ℕ) → HaveSeconds seconds events → clock ≡ [] → apart ≤ 60 →
    are_apart seconds apart ≡ true → (a b : ℕ) → has_close_starts (rule_in clock (Events events)) a b apart ≡ false
no_close_starts seconds events clock apart have none few are a b =
    let those = map (event_in []) events in
    let there = have_in_utc seconds events have in
    ap (λ (c : List Change). has_close_starts (rule_in c (Events events)) a b apart) none
    ∙ none_of_passing (is_start (Events those)) (λ s. has_start (Events those) (s + 1) (s + apart)) a b
    (λ s is. ap is_some (sym (passing-first (is_start (Events those)) (s + 1) (s + apart) None (none_near seconds those apart s there few are is))))
