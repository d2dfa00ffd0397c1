-- In times that ascend by their date, and on a date by the second, the clock is put back between two of them exactly if it
-- is put back between two neighbours of a date.
use Rattle.std.proofs.Common.{◌≡◌, ℕ, ◌+◌, ◌/◌, ◌<◌, ◌≤◌, ◌==◌, Bool, true, false, true≢false, List, [], ◌∷◌, inl, inr, refl, ap, sym, ◌∙◌, arith}
use Rattle.std.specs.Prelude.{◌||◌, ◌⊎◌, ⊤, nat_lt}
use Rattle.std.specs.List.{list_any}
use Rattle.std.proofs.lemmas.Bool.{cases_lt, and_parts, and_from, ltb-true, lt-ltb, eqb-true, eq-eqb, false_from_ne_true, or_right, or_left, or_cases}
use Rattle.agenda_table.specs.Dates.{falls_within, is_put_back}
use Rattle.agenda_table.specs.Keys.{falls_after}

-- a time isn't before another one: its date isn't earlier, and on the same date the second isn't
abbrev pub IsAfter : (shown : ℕ → ℕ) → (first n : ℕ) → Type 0
IsAfter shown first n = (shown first / 86400 ≤ shown n / 86400) × (shown first / 86400 ≡ shown n / 86400 → first ≤ n)

-- these times ascend by their date, and on a date by the second, and none is before the first
abbrev pub Ascend : (shown : ℕ → ℕ) → (first : ℕ) → List ℕ → Type 0
Ascend shown first [] = ⊤
Ascend shown first (next ∷ later) = IsAfter shown first next × Ascend shown next later

-- the clock is put back between two times of a date
record PutBack (shown : ℕ → ℕ) (date n m : ℕ) : Type 0 where
  first : shown n / 86400 ≡ date
  second : shown m / 86400 ≡ date
  later : n < m
  falls : shown m + n < shown n + m

put_back_from : (shown : ℕ → ℕ) (date n m : ℕ) → is_put_back shown date n m ≡ true → PutBack shown date n m
put_back_from shown date n m is =
    let (first, rest) = and_parts (shown n / 86400 == date) _ is in
    let (second, both) = and_parts (shown m / 86400 == date) _ rest in
    let (later, falls) = and_parts (nat_lt n m) _ both in
    record {
      first = eqb-true (shown n / 86400) date first;
      second = eqb-true (shown m / 86400) date second;
      later = ltb-true n m later;
      falls = ltb-true (shown m + n) (shown n + m) falls;
    }

put_back_is : (shown : ℕ → ℕ) (date n m : ℕ) → PutBack shown date n m → is_put_back shown date n m ≡ true
put_back_is shown date n m put =
    and_from _ _ (eq-eqb (shown n / 86400) date put.first) (and_from _ _ (eq-eqb (shown m / 86400) date put.second)
    (and_from _ _ (lt-ltb n m put.later) (lt-ltb (shown m + n) (shown n + m) put.falls)))

-- none of these times is before the first
abbrev AreAfter : (shown : ℕ → ℕ) → (first : ℕ) → List ℕ → Type 0
AreAfter shown first [] = ⊤
AreAfter shown first (next ∷ later) = IsAfter shown first next × AreAfter shown first later

after_later : (shown : ℕ → ℕ) (first next n : ℕ) → IsAfter shown first next → IsAfter shown next n → IsAfter shown first n
after_later shown first next n one two = (
  omega (arith, one.0, two.0),
  λ same.
      let here : shown first / 86400 ≡ shown next / 86400 = omega (arith, one.0, two.0, same) in
      let there : shown next / 86400 ≡ shown n / 86400 = omega (arith, one.0, two.0, same) in
      omega (arith, one.1 here, two.1 there),
)

after_weaker :
    (shown : ℕ → ℕ) (first next : ℕ) (later : List ℕ) → IsAfter shown first next → AreAfter shown next later → AreAfter shown first later
after_weaker shown first next [] is after = after
after_weaker shown first next (time ∷ later) is after =
    (after_later shown first next time is after.0, after_weaker shown first next later is after.1)

after_from : (shown : ℕ → ℕ) (first : ℕ) (later : List ℕ) → Ascend shown first later → AreAfter shown first later
after_from shown first [] up = up
after_from shown first (next ∷ later) up =
    (up.0, after_weaker shown first next later up.0 (after_from shown next later up.1))

-- what isn't before a time comes before it on no date
not_before : (shown : ℕ → ℕ) (date first n : ℕ) → IsAfter shown first n → is_put_back shown date n first ≡ false
not_before shown date first n after =
    false_from_ne_true (is_put_back shown date n first) (λ is.
    let put = put_back_from shown date n first is in
    let order : first ≤ n = after.1 (put.second ∙ sym put.first) in
    absurd (omega (arith, order, put.later)))

-- what is before a time adds nothing
none_before :
    (shown : ℕ → ℕ) (date first : ℕ) (test : ℕ → Bool) (times : List ℕ) → AreAfter shown first times →
    list_any (λ n. is_put_back shown date n first || test n) times ≡ list_any test times
none_before shown date first test [] after = refl
none_before shown date first test (time ∷ times) after =
    let one : is_put_back shown date time first ≡ false = not_before shown date first time after.0 in
    λ i. (one i || test time) || none_before shown date first test times after.1 i

-- the clock isn't put back between a time and itself
pub not_alone : (shown : ℕ → ℕ) (date n : ℕ) → is_put_back shown date n n ≡ false
not_alone shown date n =
    false_from_ne_true (is_put_back shown date n n) (λ is.
    let put = put_back_from shown date n n is in absurd (omega (arith, put.later)))

-- the first of the times is the earlier one of two, or is none of them
first_apart :
    (shown : ℕ → ℕ) (date first : ℕ) (later : List ℕ) → AreAfter shown first later →
    falls_within shown (first ∷ later) date ≡ (list_any (is_put_back shown date first) later || falls_within shown later date)
first_apart shown date first later after =
    λ i. (not_alone shown date first i || list_any (is_put_back shown date first) later)
    || none_before shown date first (λ n. list_any (is_put_back shown date n) later) later after i

-- the clock is put back from a first time to a last one: up to the one between them, or after it
put_back_apart :
    (shown : ℕ → ℕ) (date first next n : ℕ) → IsAfter shown first next → IsAfter shown next n → PutBack shown date first n →
    PutBack shown date first next ⊎ PutBack shown date next n
put_back_apart shown date first next n one two put =
    let middle : shown next / 86400 ≡ date = omega (arith, one.0, two.0, put.first, put.second) in
    let low : first ≤ next = one.1 (put.first ∙ sym middle) in
    let high : next ≤ n = two.1 (middle ∙ sym put.second) in
    elim (cases_lt (shown next + first) (shown first + next)) [
      | inl lt ↦ inl record {
        first = put.first;
        second = middle;
        later = elim (cases_lt first next) [
          | inl before ↦ before
          | inr not ↦
              let is : first ≡ next = omega (arith, low, not) in
              absurd (omega (arith, ap shown is, is, lt))
        ];
        falls = lt;
      }
      | inr ge ↦ inr record {
        first = middle;
        second = put.second;
        later = elim (cases_lt next n) [
          | inl before ↦ before
          | inr not ↦
              let is : next ≡ n = omega (arith, high, not) in
              absurd (omega (arith, ap shown is, is, ge, put.falls))
        ];
        falls = omega (arith, ge, put.falls);
      }
    ]

-- a time that the clock is put back to from the first one: so it is up to the next one, or after that
next_first :
    (shown : ℕ → ℕ) (date first next : ℕ) (later : List ℕ) → IsAfter shown first next → AreAfter shown next later →
    list_any (is_put_back shown date first) later ≡ true →
    (is_put_back shown date first next || list_any (is_put_back shown date next) later) ≡ true
next_first shown date first next [] one after is = absurd (true≢false (sym is))
next_first shown date first next (time ∷ later) one after is =
    elim (or_cases (is_put_back shown date first time) (list_any (is_put_back shown date first) later) is) [
      | inl here ↦ elim (put_back_apart shown date first next time one after.0 (put_back_from shown date first time here)) [
        | inl low ↦ or_left _ _ (put_back_is shown date first next low)
        | inr high ↦ or_right _ _ (or_left _ _ (put_back_is shown date next time high))
      ]
      | inr there ↦ elim (or_cases (is_put_back shown date first next) (list_any (is_put_back shown date next) later)
          (next_first shown date first next later one after.1 there)) [
            | inl low ↦ or_left _ _ low
            | inr high ↦ or_right _ _ (or_right _ _ high)
          ]
    ]

bool_same : (a b c d : Bool) → (b ≡ true → (a || c) ≡ true) → (a || (c || d)) ≡ ((a || b) || (c || d))
bool_same true b c d imp = refl
bool_same false false c d imp = refl
bool_same false true c d imp = ap (λ x. x || d) (imp refl)

-- neighbours are enough
pub falls_same :
    (shown : ℕ → ℕ) (date first : ℕ) (later : List ℕ) → Ascend shown first later →
    falls_after shown date first later ≡ falls_within shown (first ∷ later) date
falls_same shown date first [] up = sym (first_apart shown date first [] up)
falls_same shown date first (next ∷ later) up =
    let after = after_from shown next later up.1 in
    let here = is_put_back shown date first next in
    let whole = first_apart shown date first (next ∷ later) (after_from shown first (next ∷ later) up) in
    let rest = first_apart shown date next later after in
    ap (λ b. here || b) (falls_same shown date next later up.1 ∙ rest)
    ∙ bool_same here (list_any (is_put_back shown date first) later) (list_any (is_put_back shown date next) later)
    (falls_within shown later date) (next_first shown date first next later up.0 after)
    ∙ ap (λ b. (here || list_any (is_put_back shown date first) later) || b) (sym rest) ∙ sym whole
