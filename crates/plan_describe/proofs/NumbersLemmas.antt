-- What is said of numbers has just these numbers.
use Rattle.std.proofs.Common.{◌≡◌, ℕ, ◌+◌, ◌-◌, ◌*◌, ◌%◌, ◌<◌, ◌≤◌, Bool, true, false, ◌&&◌, ◌||◌, ◌==◌, nat_le, if◌then◌else◌, List, [], ◌∷◌, ◌++◌, refl, ap, sym, ◌∙◌, arith, length, inl, inr, append_assoc, cond, filter, zero, suc}
use Rattle.std.specs.List.{list_all, list_any, flat_map, range_with_len}
use Rattle.std.proofs.lemmas.Bool.Decides.{nat_tests}
use Rattle.std.proofs.lemmas.Bool.{cases_lt}
use Rattle.std.proofs.Math.Nat.{add-mod_right, mod-eq_of_lt, mod-one}
use Rattle.plan_sets.specs.Values.{is_among}
use Rattle.plan_sets.specs.ValuesLaws.{any_in_range}
use Rattle.plan_words.specs.declared.tree.Span.{Span}
use Rattle.plan_words.specs.Tree.{Items}
use Rattle.plan_words.specs.Meaning.{span_has, steps_have, values_have}
use Rattle.plan_describe.specs.Numbers.{has_number, is_whole, members, single, with_number, runs_after, runs, said_run, items, is_spaced, last_of, least_steps, is_steps, steps_of, values_said}

or_assoc : (a b c : Bool) → ((a || b) || c) ≡ (a || (b || c))
or_assoc true b c = refl
or_assoc false b c = refl

or_swap : (a b : Bool) → (a || b) ≡ (b || a)
or_swap true true = refl
or_swap true false = refl
or_swap false true = refl
or_swap false false = refl

pub or_none : (a : Bool) → (a || false) ≡ a
or_none true = refl
or_none false = refl

-- ---- spans

-- a span isn't turned round
abbrev pub AreSpans : List Span → Type 0
AreSpans [] = Unit {0}
AreSpans (s ∷ more) = (s.first ≤ s.last) × AreSpans more

abbrev has : ℕ → List Span → Bool
has u spans = list_any (span_has u) spans

single_has : (u v : ℕ) → (nat_le v u && nat_le u v) ≡ (v == u)
single_has u v = grind (arith, nat_tests)

longer_has : (u first last v : ℕ) → first ≤ last → last + 1 ≡ v → (nat_le first u && nat_le u v) ≡ ((nat_le first u && nat_le u last) || (v == u))
longer_has u first last v order next = grind (arith, nat_tests)

longer : (u v : ℕ) (s : Span) (b : Bool) → s.first ≤ s.last → (s.last + 1 == v) ≡ b →
    has u (if b then record { first = s.first; last = v } ∷ [] else s ∷ single v ∷ []) ≡ ((span_has u s || false) || (v == u))
longer u v s true order is =
    let next : s.last + 1 ≡ v = grind (arith, nat_tests) in
    or_none (nat_le s.first u && nat_le u v) ∙ longer_has u s.first s.last v order next ∙ ap (λ x. x || (v == u)) (sym (or_none (span_has u s)))
longer u v s false order is =
    ap (λ x. span_has u s || x) (or_none (nat_le v u && nat_le u v) ∙ single_has u v) ∙ ap (λ x. x || (v == u)) (sym (or_none (span_has u s)))

longer_spans : (v : ℕ) (s : Span) (b : Bool) → s.first ≤ s.last → (s.last + 1 == v) ≡ b →
    AreSpans (if b then record { first = s.first; last = v } ∷ [] else s ∷ single v ∷ [])
longer_spans v s true order is = let next : s.last + 1 ≡ v = grind (arith, nat_tests) in (omega arith, tt)
longer_spans v s false order is = (order, (omega arith, tt))

with_has : (u v : ℕ) (spans : List Span) → AreSpans spans → has u (with_number spans v) ≡ (has u spans || (v == u))
with_has u v [] fine = or_none (nat_le v u && nat_le u v) ∙ single_has u v
with_has u v (s ∷ []) fine = longer u v s (s.last + 1 == v) fine.0 refl
with_has u v (s ∷ t ∷ more) fine =
    ap (λ x. span_has u s || x) (with_has u v (t ∷ more) fine.1) ∙ sym (or_assoc (span_has u s) (has u (t ∷ more)) (v == u))

with_spans : (v : ℕ) (spans : List Span) → AreSpans spans → AreSpans (with_number spans v)
with_spans v [] fine = (omega arith, tt)
with_spans v (s ∷ []) fine = longer_spans v s (s.last + 1 == v) fine.0 refl
with_spans v (s ∷ t ∷ more) fine = (fine.0, with_spans v (t ∷ more) fine.1)

runs_have : (u : ℕ) (known : List Span) (vs : List ℕ) → AreSpans known →
    has u (runs_after known vs) ≡ (has u known || list_any (λ v. v == u) vs)
runs_have u known [] fine = sym (or_none (has u known))
runs_have u known (v ∷ vs) fine =
    runs_have u (with_number known v) vs (with_spans v known fine)
    ∙ ap (λ x. x || list_any (λ w. w == u) vs) (with_has u v known fine)
    ∙ or_assoc (has u known) (v == u) (list_any (λ w. w == u) vs)

pair_has : (u first last : ℕ) → first + 1 ≡ last →
    ((nat_le first u && nat_le u first) || ((nat_le last u && nat_le u last) || false)) ≡ (nat_le first u && nat_le u last)
pair_has u first last next = grind (arith, nat_tests)

said_has : (u : ℕ) (s : Span) (b : Bool) → (s.first + 1 == s.last) ≡ b →
    has u (if b then single s.first ∷ single s.last ∷ [] else s ∷ []) ≡ span_has u s
said_has u s true is = let next : s.first + 1 ≡ s.last = grind (arith, nat_tests) in pair_has u s.first s.last next
said_has u s false is = or_none (span_has u s)

has_both : (u : ℕ) (a b : List Span) → has u (a ++ b) ≡ (has u a || has u b)
has_both u [] b = refl
has_both u (s ∷ a) b = ap (λ x. span_has u s || x) (has_both u a b) ∙ sym (or_assoc (span_has u s) (has u a) (has u b))

all_said : (u : ℕ) (spans : List Span) → has u (flat_map said_run spans) ≡ has u spans
all_said u [] = refl
all_said u (s ∷ more) =
    has_both u (said_run s) (flat_map said_run more)
    ∙ ap (λ x. x || has u (flat_map said_run more)) (said_has u s (s.first + 1 == s.last) refl)
    ∙ ap (λ x. span_has u s || x) (all_said u more)

-- runs have just the numbers of their list, and aren't turned round
pub runs_have_all : (u : ℕ) (vs : List ℕ) → has u (runs vs) ≡ has_number vs u
runs_have_all u vs = runs_have u [] vs tt

pub runs_are_spans : (known : List Span) (vs : List ℕ) → AreSpans known → AreSpans (runs_after known vs)
runs_are_spans known [] fine = fine
runs_are_spans known (v ∷ vs) fine = runs_are_spans (with_number known v) vs (with_spans v known fine)

items_have : (u : ℕ) (vs : List ℕ) → has u (items vs) ≡ list_any (λ v. v == u) vs
items_have u vs = all_said u (runs_after [] vs) ∙ runs_have u [] vs tt

-- ---- steps

pub and_true : (a b : Bool) → (a && b) ≡ true → (a ≡ true) × (b ≡ true)
and_true true b is = (refl, is)
and_true false b is = absurd (cc)

pub last_after : (step v : ℕ) (vs : List ℕ) → is_spaced step v vs ≡ true → v ≤ last_of v vs
last_after step v [] is = omega arith
last_after step v (w ∷ ws) is =
    let parts = and_true (v + step == w) (is_spaced step w ws) is in
    let here = parts.0 in
    le_after step v w (last_of w ws) here (last_after step w ws parts.1)
  where
    le_after : (step v w last : ℕ) → (v + step == w) ≡ true → w ≤ last → v ≤ last
    le_after step v w last is more = grind (arith, nat_tests)

-- a number before the first, the first, one between the first and the next, or one from the next on
below : (u v w last m n : ℕ) → u < v → v ≤ w → (nat_le v u && (nat_le u last && (m == 0))) ≡ ((v == u) || (nat_le w u && (nat_le u last && (n == 0))))
below u v w last m n less next = grind (arith, nat_tests)

at_first : (u v w last m n : ℕ) → u ≡ v → v ≤ last → m ≡ 0 → (nat_le v u && (nat_le u last && (m == 0)))
    ≡ ((v == u) || (nat_le w u && (nat_le u last && (n == 0))))
at_first u v w last m n same fits none = grind (arith, nat_tests)

between : (u v w last m n : ℕ) → v < u → u < w → 0 < m → (nat_le v u && (nat_le u last && (m == 0))) ≡ ((v == u) || (nat_le w u && (nat_le u last && (n == 0))))
between u v w last m n less next some = grind (arith, nat_tests)

from_next : (u v w last m n : ℕ) → v < w → w ≤ u → m ≡ n → (nat_le v u && (nat_le u last && (m == 0)))
    ≡ ((v == u) || (nat_le w u && (nat_le u last && (n == 0))))
from_next u v w last m n less next same = grind (arith, nat_tests)

step_more :
    (step u v w last : ℕ) → 0 < step → v + step ≡ w → w ≤ last → steps_have v last step u ≡ ((v == u) || steps_have w last step u)
step_more step u v w last some next fits =
    elim (cases_lt u v) as (λ _. steps_have v last step u ≡ ((v == u) || steps_have w last step u)) [
      | inl less ↦ below u v w last ((u - v) % step) ((u - w) % step) less (omega arith)
      | inr over ↦
          elim (cases_lt v u) as (λ _. steps_have v last step u ≡ ((v == u) || steps_have w last step u)) [
            | inr under ↦
                let zero_gap : u - v ≡ 0 * step = omega arith in
                let none : (u - v) % step ≡ 0 = ap (λ x. x % step) zero_gap ∙ omega arith in
                at_first u v w last ((u - v) % step) ((u - w) % step) (omega arith) (omega arith) none
            | inl past ↦
                elim (cases_lt u w) as (λ _. steps_have v last step u ≡ ((v == u) || steps_have w last step u)) [
                  | inl before ↦
                      let same : (u - v) % step ≡ u - v = mod-eq_of_lt (omega arith) in
                      between u v w last ((u - v) % step) ((u - w) % step) past before (omega arith)
                  | inr from ↦
                      let gap : u - v ≡ (u - w) + step = omega arith in
                      from_next u v w last ((u - v) % step) ((u - w) % step) (omega arith) from
                      (ap (λ x. x % step) gap ∙ add-mod_right (u - w) step)
                ]
          ]
    ]

one_step : (step u v m : ℕ) → (u ≡ v → m ≡ 0) → (nat_le v u && (nat_le u v && (m == 0))) ≡ ((v == u) || false)
one_step step u v m none = grind (arith, nat_tests)

pub equal_test : (a b : ℕ) → (a == b) ≡ true → a ≡ b
equal_test a b is = grind (arith, nat_tests)

pub steps_have_all : (step u v : ℕ) (vs : List ℕ) → 0 < step → is_spaced step v vs ≡ true →
    steps_have v (last_of v vs) step u ≡ ((v == u) || list_any (λ w. w == u) vs)
steps_have_all step u v [] some is =
    one_step step u v ((u - v) % step) (λ same.
    let zero_gap : u - v ≡ 0 * step = omega arith in
    ap (λ x. x % step) zero_gap ∙ omega arith)
steps_have_all step u v (w ∷ ws) some is =
    let parts = and_true (v + step == w) (is_spaced step w ws) is in
    step_more step u v w (last_of w ws) some (equal_test (v + step) w parts.0) (last_after step w ws parts.1)
    ∙ ap (λ x. (v == u) || x) (steps_have_all step u w ws some parts.1)

two_more : (v w : ℕ) → nat_le (v + 2) w ≡ true → (v + (w - v) ≡ w) × (0 < w - v)
two_more v w is = let more : v + 2 ≤ w = grind (arith, nat_tests) in (omega arith, omega arith)

said_steps : (u : ℕ) (vs : List ℕ) → is_steps vs ≡ true → values_have (steps_of vs) u ≡ list_any (λ v. v == u) vs
said_steps u [] is = absurd (cc)
said_steps u (v ∷ []) is = absurd (cc)
said_steps u (v ∷ w ∷ more) is =
    let parts = and_true (nat_le least_steps (length (v ∷ w ∷ more))) (nat_le (v + 2) w && is_spaced (w - v) w more) is in
    let rest = and_true (nat_le (v + 2) w) (is_spaced (w - v) w more) parts.1 in
    let far = two_more v w rest.0 in
    step_more (w - v) u v w (last_of w more) far.1 far.0 (last_after (w - v) w more rest.1)
    ∙ ap (λ x. (v == u) || x) (steps_have_all (w - v) u w more far.1 rest.1)

-- numbers that are said are just those that are meant
pub values_said_have : (vs : List ℕ) (u : ℕ) → values_have (values_said vs) u ≡ list_any (λ v. v == u) vs
values_said_have vs u = go (is_steps vs) refl
  where
    go : (b : Bool) → is_steps vs ≡ b → values_have (if b then steps_of vs else Items (items vs)) u ≡ list_any (λ v. v == u) vs
    go true is = said_steps u vs is
    go false is = items_have u vs

-- a number after a list that ends with a span
pub with_number_end :
    (front : List Span) (s : Span) (v : ℕ) →
    with_number (front ++ s ∷ []) v ≡ front ++ (if s.last + 1 == v then record { first = s.first; last = v } ∷ [] else s ∷ single v ∷ [])
with_number_end [] s v = refl
with_number_end (x ∷ []) s v = refl
with_number_end (x ∷ y ∷ more) s v = ap (λ spans. x ∷ spans) (with_number_end (y ∷ more) s v)

pub runs_more : (known : List Span) (vs : List ℕ) (v : ℕ) → runs_after known (vs ++ v ∷ []) ≡ with_number (runs_after known vs) v
runs_more known [] v = refl
runs_more known (w ∷ ws) v = runs_more (with_number known w) ws v

pub with_number_near :
    (spans front : List Span) (s : Span) (v : ℕ) → spans ≡ front ++ s ∷ [] → (s.last + 1 == v) ≡ true →
    with_number spans v ≡ front ++ record { first = s.first; last = v } ∷ []
with_number_near spans front s v is near =
    ap (λ x. with_number x v) is ∙ with_number_end front s v
    ∙ ap (λ b. front ++ (if b then record { first = s.first; last = v } ∷ [] else s ∷ single v ∷ [])) near

pub with_number_far :
    (spans front : List Span) (s : Span) (v : ℕ) → spans ≡ front ++ s ∷ [] → (s.last + 1 == v) ≡ false →
    with_number spans v ≡ (front ++ s ∷ []) ++ record { first = v; last = v } ∷ []
with_number_far spans front s v is far =
    ap (λ x. with_number x v) is ∙ with_number_end front s v
    ∙ ap (λ b. front ++ (if b then record { first = s.first; last = v } ∷ [] else s ∷ single v ∷ [])) far
    ∙ sym (append_assoc front (s ∷ []) (single v ∷ []))

-- all numbers from one to another, by steps of 1
pub ones : (first last u : ℕ) → steps_have first last 1 u ≡ (nat_le first u && nat_le u last)
ones first last u = ones_by first last u ((u - first) % 1) (mod-one (u - first))
  where
    ones_by : (first last u m : ℕ) → m ≡ 0 → (nat_le first u && (nat_le u last && (m == 0))) ≡ (nat_le first u && nat_le u last)
    ones_by first last u m none = grind (arith, nat_tests)

-- a list that has all numbers of a range has each
pub whole_has : (first last : ℕ) (vs : List ℕ) (u : ℕ) → is_whole first last vs ≡ true → first ≤ u → u ≤ last → has_number vs u ≡ true
whole_has first last [] u is low high = absurd (cc)
whole_has first last (v ∷ vs) u is low high =
    let parts = and_true (v == first) (is_spaced 1 v vs && (last_of v vs == last)) is in
    let rest = and_true (is_spaced 1 v vs) (last_of v vs == last) parts.1 in
    let at_first : v ≡ first = equal_test v first parts.0 in
    let at_last : last_of v vs ≡ last = equal_test (last_of v vs) last rest.1 in
    sym (steps_have_all 1 u v vs (omega arith) rest.0) ∙ ones v (last_of v vs) u ∙ between_them v (last_of v vs) u (omega arith) (omega arith)
  where
    between_them : (first last u : ℕ) → first ≤ u → u ≤ last → (nat_le first u && nat_le u last) ≡ true
    between_them first last u low high = grind (arith, nat_tests)

-- ---- members

-- each number is below a limit
abbrev pub AreBelow : ℕ → List ℕ → Type 0
AreBelow limit [] = Unit {0}
AreBelow limit (v ∷ vs) = (v < limit) × AreBelow limit vs

pub last_below : (limit v : ℕ) (vs : List ℕ) → AreBelow limit (v ∷ vs) → last_of v vs < limit
last_below limit v [] below = below.0
last_below limit v (w ∷ ws) below = last_below limit w ws below.1

pub members_below : (test : ℕ → Bool) (first count limit : ℕ) → first + count ≤ limit → AreBelow limit (members test first count)
members_below test first zero limit fits = tt
members_below test first (suc n) limit fits =
    one_more (test first) first (filter test (range_with_len (first + 1) n)) (omega arith) (members_below test (first + 1) n limit (omega arith))
  where
    one_more : (b : Bool) (v : ℕ) (vs : List ℕ) → v < limit → AreBelow limit vs → AreBelow limit (cond b (v ∷ vs) vs)
    one_more true v vs below more = (below, more)
    one_more false v vs below more = more

-- a number of the range is a member if it passes the test
pub members_have : (test : ℕ → Bool) (first count u : ℕ) → first ≤ u → u < first + count → has_number (members test first count) u ≡ test u
members_have test first count u low high = any_in_range test first count u ∙ ap (λ b. b && test u) (among first count u low high)
  where
    among : (first count u : ℕ) → first ≤ u → u < first + count → is_among first count u ≡ true
    among first count u low high = grind (arith, nat_tests)

-- without a member in the range there is none
pub members_none : (test : ℕ → Bool) (first count : ℕ) → ((u : ℕ) → first ≤ u → u < first + count → test u ≡ false) → members test first count ≡ []
members_none test first zero none = refl
members_none test first (suc n) none =
    rw (none first (omega arith) (omega arith)) (members_none test (first + 1) n (λ u low high. none u (omega arith) (omega arith)))

-- the members are the first one, and those after it
pub members_next :
    (test : ℕ → Bool) (first count v rest : ℕ) → first ≤ v → v < first + count → test v ≡ true →
    ((u : ℕ) → first ≤ u → u < v → test u ≡ false) → rest ≡ first + count - (v + 1) →
    members test first count ≡ v ∷ members test (v + 1) rest
members_next test first zero v rest low high is none left = absurd (omega arith)
members_next test first (suc n) v rest low high is none left =
    elim (cases_lt first v) as (λ _. members test first (suc n) ≡ v ∷ members test (v + 1) rest) [
      | inl less ↦
          rw (none first (omega arith) less)
          (members_next test (first + 1) n v rest (omega arith) (omega arith) is (λ u from to. none u (omega arith) to) (omega arith))
      | inr over ↦
          let same : first ≡ v = omega arith in
          let all : n ≡ rest = omega arith in
          let here : test first ≡ true = ap test same ∙ is in
          rw here (λ i. same i ∷ members test (same i + 1) (all i))
    ]

-- a range whose first number passes, or doesn't
pub all_step : (test : ℕ → Bool) (v count rest : ℕ) (b : Bool) → test v ≡ b → count ≡ suc rest →
    list_all test (range_with_len v count) ≡ (b && list_all test (range_with_len (v + 1) rest))
all_step test v count rest b is more = rw more (rw is refl)

pub all_done : (test : ℕ → Bool) (v count : ℕ) → count ≡ 0 → list_all test (range_with_len v count) ≡ true
all_done test v count none = rw none refl

-- a list whose first number is past the next one doesn't go on from it
late : (test : ℕ → Bool) (v w count more : ℕ) → v + 1 < w → 0 < more →
    (is_spaced 1 v (members test w count) && (last_of v (members test w count) == v + more)) ≡ false
late test v w zero more gap some = grind (arith, nat_tests)
late test v w (suc n) more gap some = go (test w) (late test v (w + 1) n more (omega arith) some)
  where
    far : (v w : ℕ) (a b : Bool) → v + 1 < w → (((v + 1 == w) && a) && b) ≡ false
    far v w a b gap = grind (arith, nat_tests)

    go :
        (b : Bool) → (is_spaced 1 v (members test (w + 1) n) && (last_of v (members test (w + 1) n) == v + more)) ≡ false →
        (is_spaced 1 v (cond b (w ∷ members test (w + 1) n) (members test (w + 1) n))
        && (last_of v (cond b (w ∷ members test (w + 1) n) (members test (w + 1) n)) == v + more))
        ≡ false
    go true later = far v w (is_spaced 1 w (members test (w + 1) n)) (last_of w (members test (w + 1) n) == v + more) gap
    go false later = later

-- the members after a number are all that follow it exactly if all of these pass the test
run_all : (test : ℕ → Bool) (v count : ℕ) →
    (is_spaced 1 v (members test (v + 1) count) && (last_of v (members test (v + 1) count) == v + count)) ≡ list_all test (range_with_len (v + 1) count)
run_all test v zero = grind (arith, nat_tests)
run_all test v (suc n) = go (test (v + 1)) (run_all test (v + 1) n)
  where
    near : (v n last : ℕ) (a : Bool) → (((v + 1 == v + 1) && a) && (last == v + suc n)) ≡ (a && (last == (v + 1) + n))
    near v n last a = grind (arith, nat_tests)

    go :
        (b : Bool) →
        (is_spaced 1 (v + 1) (members test (v + 1 + 1) n) && (last_of (v + 1) (members test (v + 1 + 1) n) == (v + 1) + n))
        ≡ list_all test (range_with_len (v + 1 + 1) n) →
        (is_spaced 1 v (cond b ((v + 1) ∷ members test (v + 1 + 1) n) (members test (v + 1 + 1) n))
        && (last_of v (cond b ((v + 1) ∷ members test (v + 1 + 1) n) (members test (v + 1 + 1) n)) == v + suc n))
        ≡ (b && list_all test (range_with_len (v + 1 + 1) n))
    go true later =
        near v n (last_of (v + 1) (members test (v + 1 + 1) n)) (is_spaced 1 (v + 1) (members test (v + 1 + 1) n)) ∙ later
    go false later = late test v (v + 1 + 1) n (suc n) (omega arith) (omega arith)

past_first : (test : ℕ → Bool) (first last w count : ℕ) → first < w → is_whole first last (members test w count) ≡ false
past_first test first last w zero gap = refl
past_first test first last w (suc n) gap = go (test w) (past_first test first last (w + 1) n (omega arith))
  where
    apart : (first w : ℕ) (b : Bool) → first < w → ((w == first) && b) ≡ false
    apart first w b gap = grind (arith, nat_tests)

    go :
        (b : Bool) → is_whole first last (members test (w + 1) n) ≡ false →
        is_whole first last (cond b (w ∷ members test (w + 1) n) (members test (w + 1) n)) ≡ false
    go true later = apart first w (is_spaced 1 w (members test (w + 1) n) && (last_of w (members test (w + 1) n) == last)) gap
    go false later = later

-- the members are whole exactly if all numbers of the range pass the test
pub whole_members : (test : ℕ → Bool) (first count last : ℕ) → 0 < count → last + 1 ≡ first + count →
    is_whole first last (members test first count) ≡ list_all test (range_with_len first count)
whole_members test first zero last some end = absurd (omega arith)
whole_members test first (suc n) last some end = go (test first)
  where
    same : (first last n other : ℕ) (a : Bool) → last + 1 ≡ first + suc n → ((first == first) && (a && (other == last))) ≡ (a && (other == first + n))
    same first last n other a end = grind (arith, nat_tests)

    go :
        (b : Bool) →
        is_whole first last (cond b (first ∷ members test (first + 1) n) (members test (first + 1) n))
        ≡ (b && list_all test (range_with_len (first + 1) n))
    go true =
        same first last n (last_of first (members test (first + 1) n)) (is_spaced 1 first (members test (first + 1) n)) end ∙ run_all test first n
    go false = past_first test first last (first + 1) n (omega arith)
