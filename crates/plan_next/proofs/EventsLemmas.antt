-- The starts of a list of events are those of its events.
-- For the loops of `first_of_each`, `next_of_each` and `first_within`: one event more than those so far. The next
-- number of two tests is the smaller of both. If the second test is searched only up to the first answer, there are four cases.
use Rattle.std.proofs.Common.{◌≡◌, ℕ, ◌+◌, zero, suc, length, ◌≤◌, Bool, true, false, ◌||◌, List, [], ◌∷◌, ◌++◌, Option, None, Some, Bor, take, ap, sym, ◌∙◌, arith}
use Rattle.std.proofs.lemmas.Bool.Decides.{nat_tests}
use Rattle.std.specs.Prelude.{min, slice_get, unwrap_or}
use Rattle.std.specs.List.{list_any}
use Rattle.std.specs.Option.{option_or}
use Rattle.std.proofs.lemmas.Bool.{or_left, or_right}
use Rattle.std.proofs.lemmas.List.{take_more}
use Rattle.std.proofs.lemmas.List.Folds.{list_any-append}
use Rattle.std.proofs.lemmas.Option.{slice_get_within, get_or_from_slice_get}
use Rattle.plan_match.specs.declared.event.Calendar.{Calendar}
use Rattle.plan_next.specs.declared.search.Pattern.TheVariants.{Event}
use Rattle.plan_next.specs.Next.{IsFirstOrEnd}
use Rattle.plan_next.specs.Search.{starts_by}
use Rattle.plan_next.specs.Starts.{event_starts, IsFirstIn}
use Rattle.plan_next.proofs.FirstLemmas.{IsFirstIn-same}
use Rattle.plan_next.proofs.NextsLemmas.{IsFirstOrEnd-same}

-- if the second test is searched only up to the first answer, its answer is the first of both; if it has none, the first answer is
IsFirstIn-narrowed :
    (p q : ℕ → Bool) (a b : ℕ) (first second : Option ℕ) → IsFirstIn p a b first → IsFirstIn q a (unwrap_or first b) second →
    IsFirstIn (λ n. p n || q n) a b (option_or second first)
IsFirstIn-narrowed p q a b first second given given₂ = grind (arith, nat_tests)

-- the smaller of two next numbers is the next of both tests
IsFirstOrEnd-min :
    (p q : ℕ → Bool) (a b n m : ℕ) → IsFirstOrEnd p a b n → IsFirstOrEnd q a b m → IsFirstOrEnd (λ k. p k || q k) a b (min n m)
IsFirstOrEnd-min p q a b n m first second = grind (arith, nat_tests)

-- second n is a start of some event of the list
abbrev pub matched_by : List Calendar → ℕ → Bool
matched_by events n = list_any (λ event. event_starts event n) events

one_more :
    (events : List Calendar) (i : ℕ) (event : Calendar) → slice_get events i ≡ Some event →
    take (i + 1) events ≡ take i events ++ event ∷ []
one_more events i event is =
    take_more events i event (slice_get_within events i event is) ∙ ap (λ e. take i events ++ e ∷ [])
    (get_or_from_slice_get events i event event is)

or_none : (b : Bool) → (b || false) ≡ b
or_none b = grind (arith, nat_tests)

matched_by-more :
    (events : List Calendar) (i n : ℕ) (event : Calendar) → slice_get events i ≡ Some event →
    (matched_by (take i events) n || event_starts event n) ≡ matched_by (take (i + 1) events) n
matched_by-more events i n event is =
    sym (ap (λ xs. matched_by xs n) (one_more events i event is)
    ∙ list_any-append (λ e. event_starts e n) (take i events) (event ∷ [])
    ∙ ap (λ b. matched_by (take i events) n || b) (or_none (event_starts event n)))

-- one more event, searched up to the first start so far
pub more_events :
    (events : List Calendar) (i since end : ℕ) (event : Bor Calendar) (first found : Option ℕ) →
    slice_get events i ≡ Some event.now → IsFirstIn (matched_by (take i events)) since end first →
    IsFirstIn (starts_by (Event event)) since (unwrap_or first end) found →
    IsFirstIn (matched_by (take (i + 1) events)) since end (option_or found first)
more_events events i since end event first found is so_far next =
    let both = IsFirstIn-narrowed (matched_by (take i events)) (event_starts event.now) since end first found so_far next in
    IsFirstIn-same (λ n. matched_by (take i events) n || event_starts event.now n) (matched_by (take (i + 1) events)) since end
    (option_or found first) (λ n h. matched_by-more events i n event.now is) both

-- one more event, whose next start is known
pub more_nexts :
    (events : List Calendar) (i from end earliest next : ℕ) (event : Calendar) → slice_get events i ≡ Some event →
    IsFirstOrEnd (matched_by (take i events)) from end earliest → IsFirstOrEnd (event_starts event) from end next →
    IsFirstOrEnd (matched_by (take (i + 1) events)) from end (min earliest next)
more_nexts events i from end earliest next event is so_far more =
    IsFirstOrEnd-same (λ n. matched_by (take i events) n || event_starts event n) (matched_by (take (i + 1) events)) from end
    (min earliest next)
    (λ n h. matched_by-more events i n event is)
    (IsFirstOrEnd-min (matched_by (take i events)) (event_starts event) from end earliest next so_far more)

-- a start of an event of the list is a start of the list
pub is_start-event :
    (events : List Calendar) (k n : ℕ) (event : Calendar) → slice_get events k ≡ Some event → event_starts event n ≡ true →
    matched_by events n ≡ true
is_start-event [] k n event is h = absurd (cc)
is_start-event (first ∷ events) zero n event is h = grind (arith, nat_tests, or_left)
is_start-event (first ∷ events) (suc k) n event is h = grind (arith, nat_tests, or_right, is_start-event events k n event is h)

pub none_past : (events : List Calendar) (i : ℕ) → slice_get events i ≡ None → length events ≤ i
none_past [] i is = omega arith
none_past (event ∷ events) zero is = absurd (cc)
none_past (event ∷ events) (suc i) is = omega (arith, none_past events i is)
