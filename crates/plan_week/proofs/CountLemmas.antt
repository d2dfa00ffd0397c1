-- The table while its hours are counted: for the loops of `add_hours` and `add_entries`.
use Rattle.std.proofs.Common.{◌≡◌, ◌≢◌, ℕ, zero, suc, ◌+◌, ◌-◌, ◌/◌, ◌%◌, ◌<◌, ◌≤◌, ◌⊎◌, Bool, true, false, cond, ◌||◌, List, [], ◌∷◌, get_or, length, take, Option, Some, None, inl, inr, refl, ap, sym, ◌∙◌, arith}
use Rattle.std.specs.Prelude.{◌==◌, count_by}
use Rattle.std.specs.List.{list_any, range_with_len}
use Rattle.std.proofs.lemmas.Bool.{and_left, and_right, and_from, eq-eqb, le-leb, lt-ltb, ne_eqb, or_right}
use Rattle.std.proofs.lemmas.List.{length-take}
use Rattle.std.proofs.lemmas.List.Sums.{count_by-le-length, count_by_more_no, count_by_more_yes}
use Rattle.plan_clock.specs.declared.row.Change.{Change}
use Rattle.plan_collect.specs.Agenda.{Planned}
use Rattle.plan_next.specs.Span.{Bounds}
use Rattle.plan_week.specs.Hours.{hour_at}
use Rattle.plan_week.specs.Table.{changed_at, day_with, days_after, days_by, days_with, found_at, no_day, shown_in, with_starts}
use Rattle.plan_week.specs.Week.{count_of, has_hour, is_counted, is_inside, starts_in}
use Rattle.plan_week.specs.declared.day.Day.{Day}
use Rattle.plan_week.proofs.TableLemmas.{days_with-days_by, found_at-days_by, length-days_by}

-- ---- ranges in which some number passes a test

any_split :
    (test : ℕ → Bool) (n m k a b : ℕ) → k ≡ n + m → b ≡ a + n →
    list_any test (range_with_len a k) ≡ (list_any test (range_with_len a n) || list_any test (range_with_len b m))
any_split test zero m k a b whole next =
    let e : k ≡ m = omega arith in
    let f : b ≡ a = omega arith in
    rw (e, f) refl
any_split test (suc n) m zero a b whole next = absurd (omega arith)
any_split test (suc n) m (suc k) a b whole next =
    let later = any_split test n m k (a + 1) b (omega arith) (omega arith) in
    ap (λ is. test a || is) later ∙ or_group (test a) (list_any test (range_with_len (a + 1) n)) (list_any test (range_with_len b m))
  where
    or_group : (x y z : Bool) → (x || (y || z)) ≡ ((x || y) || z)
    or_group true y z = refl
    or_group false y z = refl

pub any_none :
    (test : ℕ → Bool) (n a : ℕ) → ((s : ℕ) → a ≤ s → s < a + n → test s ≡ false) → list_any test (range_with_len a n) ≡ false
any_none test zero a none = refl
any_none test (suc n) a none =
    let here : test a ≡ false = none a (omega arith) (omega arith) in
    rw here (any_none test n (a + 1) (λ s low high. none s (omega arith) (omega arith)))

pub any_at :
    (test : ℕ → Bool) (n a s : ℕ) → a ≤ s → s < a + n → test s ≡ true → list_any test (range_with_len a n) ≡ true
any_at test n a s low high is =
    let split = any_split test (s - a) (suc (n - (s - a) - 1)) n a s (omega arith) (omega arith) in
    split ∙ rw is (or_right (list_any test (range_with_len a (s - a))) true refl)

-- ---- hours in a span

-- the hour that a clock shows at a second of a span is in the span
pub has_hour_at :
    (clock : List Change) (span : Bounds) (n hour : ℕ) → span.since ≤ n → n < span.upto → hour_at clock n ≡ hour →
    has_hour clock span hour ≡ true
unfolding has_hour
has_hour_at clock span n hour from before is =
    any_at (λ s. hour_at clock s == hour) (span.upto - span.since) span.since n from (omega arith)
    (eq-eqb (hour_at clock n) hour is)

-- an hour that the clock shows at no second of a span isn't in the span
pub has_hour_none :
    (clock : List Change) (span : Bounds) (hour : ℕ) → ((n : ℕ) → span.since ≤ n → n < span.upto → hour_at clock n ≢ hour) →
    has_hour clock span hour ≡ false
unfolding has_hour
has_hour_none clock span hour none =
    any_none (λ s. hour_at clock s == hour) (span.upto - span.since) span.since
    (λ s low high. ne_eqb (hour_at clock s) hour (none s low (omega arith)))

-- the seconds from one until before another
abbrev pub between : (since upto : ℕ) → Bounds
between since upto = record { since = since; upto = upto }

-- a longer span in whose further seconds the clock doesn't show an hour
has_hour_more :
    (clock : List Change) (since middle upto hour : ℕ) → since ≤ middle → middle ≤ upto →
    ((n : ℕ) → middle ≤ n → n < upto → hour_at clock n ≢ hour) →
    has_hour clock (between since middle) hour ≡ has_hour clock (between since upto) hour
unfolding has_hour
has_hour_more clock since middle upto hour low high none =
    let test : ℕ → Bool = λ s. hour_at clock s == hour in
    let first = list_any test (range_with_len since (middle - since)) in
    let split = any_split test (middle - since) (upto - middle) (upto - since) since middle (omega arith) (omega arith) in
    let later = any_none test (upto - middle) middle (λ s from before. ne_eqb (hour_at clock s) hour (none s from (omega arith))) in
    sym (split ∙ ap (λ is. first || is) later ∙ or_false first)
  where
    or_false : (is : Bool) → (is || false) ≡ is
    or_false true = refl
    or_false false = refl

-- ---- the hours in the span

shown_none : (clock : List Change) (since hour : ℕ) → None ≡ shown_in clock (between since since) hour
shown_none clock since hour = rw (has_hour_none clock (between since since) hour (λ n low high. absurd (omega arith))) refl

-- at first no hour is in the span
pub no_hours :
    (clock : List Change) (since first count : ℕ) →
    days_by (λ _. None) first count ≡ days_by (shown_in clock (between since since)) first count
no_hours clock since first count = ap (λ (f : ℕ → Option ℕ). days_by f first count) (λ i hour. shown_none clock since hour i)

-- such an hour has no starts yet
pub count_of-shown_in : (clock : List Change) (span : Bounds) (hour : ℕ) → count_of (shown_in clock span hour) ≡ 0
count_of-shown_in clock span hour = go (has_hour clock span hour)
  where
    go : (is : Bool) → count_of (cond is (Some 0) None) ≡ 0
    go true = refl
    go false = refl

-- the next hour is in the span
pub hours_more :
    (clock : List Change) (since second upto first count hour : ℕ) → hour ≡ hour_at clock second → since ≤ second → second < upto →
    ((n : ℕ) → second ≤ n → n < upto → hour_at clock n ≡ hour_at clock second) →
    first ≤ hour / 24 → hour / 24 < first + count →
    days_with first hour 0 (days_by (shown_in clock (between since second)) first count)
    ≡ days_by (shown_in clock (between since upto)) first count
hours_more clock since second upto first count hour is low high same from to =
    let old = shown_in clock (between since second) in
    let new = shown_in clock (between since upto) in
    let here : new hour ≡ Some 0 = rw (has_hour_at clock (between since upto) second hour low high (sym is)) refl in
    let before : count_of (old hour) + 0 ≡ 0 = omega (arith, count_of-shown_in clock (between since second) hour) in
    days_with-days_by old new first count hour 0 from to (here ∙ ap Some (sym before))
    (λ k other. ap (λ is. cond is (Some 0) None) (has_hour_more clock since second upto k low (omega arith)
    (λ n after until e. other (sym e ∙ same n after until ∙ sym is))))

-- ---- the entries

-- the agenda of the first entries
abbrev pub first_entries : Bounds → List (ℕ × ℕ) → (i : ℕ) → Planned
first_entries span entries i = record { span = span; entries = take i entries }

-- an hour has at most as many starts as there are entries
pub few_starts :
    (clock : List Change) (span : Bounds) (entries : List (ℕ × ℕ)) (i hour : ℕ) →
    count_of (starts_in clock (first_entries span entries i) hour) ≤ i
few_starts clock span entries i hour =
    let most = count_by-le-length (is_counted clock span hour) (take i entries) in
    let len = length-take i entries in
    go (has_hour clock span hour) (count_by (is_counted clock span hour) (take i entries)) (omega arith)
  where
    go : (is : Bool) (n : ℕ) → n ≤ i → count_of (cond is (Some n) None) ≤ i
    go true n le = le
    go false n le = omega arith

-- an entry outside the span changes nothing
pub entry_outside :
    (clock : List Change) (span : Bounds) (entries : List (ℕ × ℕ)) (i first count : ℕ) (entry : ℕ × ℕ) → i < length entries →
    entry ≡ get_or entries i entry → is_inside span entry.0 ≡ false →
    days_by (starts_in clock (first_entries span entries i)) first count
    ≡ days_by (starts_in clock (first_entries span entries (i + 1))) first count
entry_outside clock span entries i first count entry lt at out =
    ap (λ (f : ℕ → Option ℕ). days_by f first count)
    (λ k hour. cond (has_hour clock span hour) (Some (none hour k)) None)
  where
    none : (hour : ℕ) → count_by (is_counted clock span hour) (take i entries) ≡ count_by (is_counted clock span hour) (take (i + 1) entries)
    none hour =
        let not : is_counted clock span hour (get_or entries i entry) ≡ false =
        ap (is_counted clock span hour) (sym at) ∙ and_left _ _ out in
        sym (count_by_more_no (is_counted clock span hour) entries i entry lt not)

-- an entry in the span is counted
pub entry_inside :
    (clock : List Change) (span : Bounds) (entries : List (ℕ × ℕ)) (i first count hour : ℕ) (entry : ℕ × ℕ) → i < length entries →
    entry ≡ get_or entries i entry → span.since ≤ entry.0 → entry.0 < span.upto → hour ≡ hour_at clock entry.0 →
    first ≤ hour / 24 → hour / 24 < first + count →
    days_with first hour 1 (days_by (starts_in clock (first_entries span entries i)) first count)
    ≡ days_by (starts_in clock (first_entries span entries (i + 1))) first count
entry_inside clock span entries i first count hour entry lt at low high is from to =
    days_with-days_by (starts_in clock (first_entries span entries i)) (starts_in clock (first_entries span entries (i + 1)))
    first count hour 1 from to here same
  where
    inside : is_inside span entry.0 ≡ true
    inside = and_from _ _ (le-leb span.since entry.0 low) (lt-ltb entry.0 span.upto high)

    here : starts_in clock (first_entries span entries (i + 1)) hour
        ≡ with_starts 1 (starts_in clock (first_entries span entries i) hour)
    here =
        let there : has_hour clock span hour ≡ true = has_hour_at clock span entry.0 hour low high (sym is) in
        let counted : is_counted clock span hour (get_or entries i entry) ≡ true =
        ap (is_counted clock span hour) (sym at) ∙ and_from _ _ inside (eq-eqb (hour_at clock entry.0) hour (sym is)) in
        let more = count_by_more_yes (is_counted clock span hour) entries i entry lt counted in
        rw there (ap Some more)

    same : (k : ℕ) → k ≢ hour → starts_in clock (first_entries span entries i) k
        ≡ starts_in clock (first_entries span entries (i + 1)) k
    same k other =
        let not : is_counted clock span k (get_or entries i entry) ≡ false =
        ap (is_counted clock span k) (sym at) ∙ and_right _ _ (ne_eqb (hour_at clock entry.0) k (λ e. other (sym e ∙ sym is))) in
        let none = count_by_more_no (is_counted clock span k) entries i entry lt not in
        λ j. cond (has_hour clock span k) (Some (sym none j)) None

-- ---- starts that are added at once

changed_twice :
    {X : Type 0} (f g h : X → X) (place : ℕ) (xs : List X) → ((x : X) → g (f x) ≡ h x) →
    changed_at g place (changed_at f place xs) ≡ changed_at h place xs
changed_twice f g h place [] same = refl
changed_twice f g h zero (x ∷ xs) same = (λ i. same x i ∷ xs)
changed_twice {X} f g h (suc place) (x ∷ xs) same = ap (λ (ys : List X). x ∷ ys) (changed_twice f g h place xs same)

day_twice : (hour n : ℕ) (day : Day) → day_with hour 1 (day_with hour n day) ≡ day_with hour (n + 1) day
day_twice hour n day =
    let sum : (o : Option ℕ) → with_starts 1 (with_starts n o) ≡ with_starts (n + 1) o =
    (λ o. ap (λ (k : ℕ). Some k) (omega arith)) in
    let hours = changed_twice (with_starts n) (with_starts 1) (with_starts (n + 1)) hour day.hours sum in
    λ i. record day { hours = hours i }

-- one more start in an hour
pub one_after : (first hour n : ℕ) (days : List Day) → days_after first hour (n + 1) days ≡ days_with first hour 1 (days_after first hour n days)
one_after first hour zero days = refl
one_after first hour (suc n) days =
    let next : suc n + 1 ≡ suc (suc n) = omega arith in
    let sum = λ (day : Day). day_twice (hour % 24) (suc n) day ∙ ap (λ k. day_with (hour % 24) k day) next in
    ap (λ k. days_after first hour k days) next
    ∙ sym (changed_twice (day_with (hour % 24) (suc n)) (day_with (hour % 24) 1) (day_with (hour % 24) (suc (suc n))) (hour / 24 - first)
    days sum)

length-changed_at : {X : Type 0} (f : X → X) (place : ℕ) (xs : List X) → length (changed_at f place xs) ≡ length xs
length-changed_at f place [] = refl
length-changed_at f zero (x ∷ xs) = refl
length-changed_at f (suc place) (x ∷ xs) = ap suc (length-changed_at f place xs)

-- the days stay as many
pub length-days_after : (first hour n : ℕ) (days : List Day) → length (days_after first hour n days) ≡ length days
length-days_after first hour zero days = refl
length-days_after first hour (suc n) days = length-changed_at (day_with (hour % 24) (suc n)) (hour / 24 - first) days

hours_room :
    (n hour : ℕ) (hours : List (Option ℕ)) →
    (count_of (get_or hours hour None) + n ≤ count_of (get_or (changed_at (with_starts n) hour hours) hour None))
    ⊎ (count_of (get_or hours hour None) ≡ 0)
hours_room n hour [] = inr refl
hours_room n zero (h ∷ hs) = inl (omega arith)
hours_room n (suc hour) (h ∷ hs) = hours_room n hour hs

days_room :
    (n hour place : ℕ) (days : List Day) →
    (count_of (get_or (get_or days place no_day).hours hour None) + n
    ≤ count_of (get_or (get_or (changed_at (day_with hour n) place days) place no_day).hours hour None))
    ⊎ (count_of (get_or (get_or days place no_day).hours hour None) ≡ 0)
days_room n hour place [] = inr refl
days_room n hour zero (day ∷ days) = hours_room n hour day.hours
days_room n hour (suc place) (day ∷ days) = days_room n hour place days

-- an hour has at most as many starts as it has after more of them, or has none
pub room_after :
    (first hour n : ℕ) (days : List Day) →
    (count_of (found_at first hour days) + n ≤ count_of (found_at first hour (days_after first hour n days)))
    ⊎ (count_of (found_at first hour days) ≡ 0)
room_after first hour zero days = inl (omega arith)
room_after first hour (suc n) days = days_room (suc n) (hour % 24) (hour / 24 - first) days

-- the days of a table to which starts are still to be added
pub pending_days :
    (starts : ℕ → Option ℕ) (first count hour n : ℕ) (days : List Day) → days_after first hour n days ≡ days_by starts first count →
    length days ≡ count
pending_days starts first count hour n days is = sym (length-days_after first hour n days) ∙ ap length is ∙ length-days_by starts first count

-- there is room for these starts
pub pending_room :
    (clock : List Change) (span : Bounds) (entries : List (ℕ × ℕ)) (i first count hour n : ℕ) (days : List Day) → n ≤ i →
    first ≤ hour / 24 → hour / 24 < first + count →
    days_after first hour n days ≡ days_by (starts_in clock (first_entries span entries i)) first count →
    count_of (found_at first hour days) + n ≤ i
pending_room clock span entries i first count hour n days few from to is =
    let starts = starts_in clock (first_entries span entries i) in
    let there : count_of (found_at first hour (days_after first hour n days)) ≡ count_of (starts hour) =
    ap (λ (ds : List Day). count_of (found_at first hour ds)) is ∙ ap count_of (found_at-days_by starts first count hour from to) in
    let most = few_starts clock span entries i hour in
    elim (room_after first hour n days) [
      | inl fits ↦ omega (arith, fits, there, most)
      | inr none ↦ omega (arith, none)
    ]
