-- Series have the numbers of their lists, and sums of series have the sums of their numbers.
use Rattle.std.proofs.Common.{◌≡◌, ℕ, zero, suc, ◌+◌, ◌-◌, ◌*◌, ◌/◌, ◌%◌, ◌<◌, ◌≤◌, Bool, true, false, ◌&&◌, ◌==◌, nat_le, nat_lt, if◌then◌else◌, List, [], ◌∷◌, refl, ap, sym, ◌∙◌, arith, inl, inr, ◌⊎◌}
use Rattle.std.proofs.lemmas.Bool.{and_from, and_left, and_parts, and_right, cases_eq, cases_lt, ne_eqb}
use Rattle.std.proofs.lemmas.Bool.Decides.{nat_tests}
use Rattle.std.proofs.Math.Nat.{add-mod_right, div-add-mod, dvd-mul_right, dvd-mul_right_of_dvd, dvd-sub_iff_right, dvd_of_mod-eq-zero, dvd_trans, le_of_dvd, mod-add-mod, mod-eq-zero_of_dvd, mod-eq_of_lt, mul-add, mul-add-mod_self_left, mul-le-mul_left, mul-lt-mul_of_pos_left, mul-mod_left, mul-mod_right, mul-pos, mul-sub, mul-zero, mul_assoc}
use Rattle.plan_words.specs.Meaning.{steps_have}
use Rattle.plan_describe.specs.declared.series.Series.{Series}
use Rattle.plan_describe.specs.declared.series.Series.TheVariants.{One, Even, Uneven}
use Rattle.plan_describe.specs.Numbers.{has_number, is_spaced, last_of}
use Rattle.plan_describe.specs.Series.{day, is_below, is_series, scaled, series_has, series_of, sums, sums_of}
use Rattle.plan_describe.proofs.NumbersLemmas.{equal_test, last_after, or_none, steps_have_all}

-- a series goes on from its first number to its last
pub record IsEven (first last step : ℕ) : Type 0 where
  pub moves : 0 < step
  pub forwards : first ≤ last
  pub reaches : (last - first) % step ≡ 0

abbrev pub IsSeries : Series → Type 0
IsSeries (One v) = Unit {0}
IsSeries (Even first last step) = IsEven first last step
IsSeries Uneven = Unit {0}

-- ---- lists

no_gap : (d v : ℕ) → (v - v) % d ≡ 0
no_gap d v = let none : v - v ≡ 0 * d = omega arith in ap (λ x. x % d) none ∙ mul-mod_left 0 d

-- the last of evenly spaced numbers is reached by steps
pub reached : (d v : ℕ) (vs : List ℕ) → is_spaced d v vs ≡ true → (last_of v vs - v) % d ≡ 0
reached d v [] is = no_gap d v
reached d v (w ∷ ws) is =
    let parts = and_parts (v + d == w) (is_spaced d w ws) is in
    let next : v + d ≡ w = equal_test (v + d) w parts.0 in
    let order : w ≤ last_of w ws = last_after d w ws parts.1 in
    let gap : last_of w ws - v ≡ last_of w ws - w + d = omega arith in
    ap (λ x. x % d) gap ∙ add-mod_right (last_of w ws - w) d ∙ reached d w ws parts.1

lt_test : (v w : ℕ) → nat_lt v w ≡ true → v < w
lt_test v w is = grind (arith, nat_tests)

-- numbers that are spaced by the distance of the first two
pub spaced_all : (v w : ℕ) (more : List ℕ) → (nat_lt v w && is_spaced (w - v) w more) ≡ true → is_spaced (w - v) v (w ∷ more) ≡ true
spaced_all v w more is =
    let parts = and_parts (nat_lt v w) (is_spaced (w - v) w more) is in
    and_from (v + (w - v) == w) (is_spaced (w - v) w more) (next_test v w (lt_test v w parts.0)) parts.1
  where
    next_test : (v w : ℕ) → v < w → (v + (w - v) == w) ≡ true
    next_test v w order = grind (arith, nat_tests)

pub series_of_has : (vs : List ℕ) (u : ℕ) → is_series (series_of vs) ≡ true → series_has (series_of vs) u ≡ has_number vs u
series_of_has [] u is = absurd (cc)
series_of_has (v ∷ []) u is = sym (or_none (v == u))
series_of_has (v ∷ w ∷ more) u is = go (nat_lt v w && is_spaced (w - v) w more) refl is
  where
    go :
        (b : Bool) → (nat_lt v w && is_spaced (w - v) w more) ≡ b →
        is_series (if b then Even v (last_of w more) (w - v) else Uneven) ≡ true →
        series_has (if b then Even v (last_of w more) (w - v) else Uneven) u ≡ has_number (v ∷ w ∷ more) u
    go true are is =
        let order : v < w = lt_test v w (and_parts (nat_lt v w) (is_spaced (w - v) w more) are).0 in
        steps_have_all (w - v) u v (w ∷ more) (omega arith) (spaced_all v w more are)
    go false are is = absurd (cc)

pub series_of_fine : (vs : List ℕ) → IsSeries (series_of vs)
series_of_fine [] = tt
series_of_fine (v ∷ []) = tt
series_of_fine (v ∷ w ∷ more) = go (nat_lt v w && is_spaced (w - v) w more) refl
  where
    go : (b : Bool) → (nat_lt v w && is_spaced (w - v) w more) ≡ b → IsSeries (if b then Even v (last_of w more) (w - v) else Uneven)
    go true are =
        let order : v < w = lt_test v w (and_parts (nat_lt v w) (is_spaced (w - v) w more) are).0 in
        let spaced = spaced_all v w more are in
        record {
          moves = omega arith;
          forwards = last_after (w - v) v (w ∷ more) spaced;
          reaches = reached (w - v) v (w ∷ more) spaced;
        }
    go false are = tt

-- ---- numbers times a unit

mod_scaled : (unit x step : ℕ) → 0 < unit → 0 < step → unit * x % (unit * step) ≡ unit * (x % step)
mod_scaled unit x step some moves =
    let parts : unit * x ≡ unit * step * (x / step) + unit * (x % step) =
    ap (λ y. unit * y) (sym (div-add-mod x step)) ∙ mul-add unit (step * (x / step)) (x % step)
    ∙ ap (λ y. y + unit * (x % step)) (sym (mul_assoc unit step (x / step))) in
    let below : x % step < step = omega arith in
    ap (λ y. y % (unit * step)) parts ∙ mul-add-mod_self_left (unit * step) (x / step) (unit * (x % step))
    ∙ mod-eq_of_lt (mul-lt-mul_of_pos_left below some)

le_over : (x y a b : ℕ) → y < x → b < a → nat_le x y ≡ nat_le a b
le_over x y a b more less = grind (arith, nat_tests)

le_fits : (x y a b : ℕ) → x ≤ y → a ≤ b → nat_le x y ≡ nat_le a b
le_fits x y a b more less = grind (arith, nat_tests)

le_scaled : (unit a b : ℕ) → 0 < unit → nat_le (unit * a) (unit * b) ≡ nat_le a b
le_scaled unit a b some =
    elim (cases_lt b a) as (λ _. nat_le (unit * a) (unit * b) ≡ nat_le a b) [
      | inl less ↦ le_over (unit * a) (unit * b) a b (mul-lt-mul_of_pos_left less some) less
      | inr fits ↦ le_fits (unit * a) (unit * b) a b (mul-le-mul_left unit fits) fits
    ]

zero_scaled : (unit m : ℕ) → 0 < unit → (unit * m == 0) ≡ (m == 0)
zero_scaled unit zero some = ap (λ x. x == 0) (mul-zero unit)
zero_scaled unit (suc m) some =
    let more : 0 < unit * suc m = mul-pos some (omega arith) in
    neither (unit * suc m) (suc m) more (omega arith)
  where
    neither : (x y : ℕ) → 0 < x → 0 < y → (x == 0) ≡ (y == 0)
    neither x y a b = grind (arith, nat_tests)

steps_scaled :
    (unit first last step u : ℕ) → 0 < unit → 0 < step →
    steps_have (unit * first) (unit * last) (unit * step) (unit * u) ≡ steps_have first last step u
steps_scaled unit first last step u some moves =
    let low = le_scaled unit first u some in
    let high = le_scaled unit u last some in
    let test : ((unit * u - unit * first) % (unit * step) == 0) ≡ ((u - first) % step == 0) =
    ap (λ x. x % (unit * step) == 0) (sym (mul-sub unit u first)) ∙ ap (λ x. x == 0) (mod_scaled unit (u - first) step some moves)
    ∙ zero_scaled unit ((u - first) % step) some in
    λ i. low i && (high i && test i)

reaches_scaled :
    (unit first last step : ℕ) → 0 < unit → IsEven first last step → (unit * last - unit * first) % (unit * step) ≡ 0
reaches_scaled unit first last step some fine =
    ap (λ x. x % (unit * step)) (sym (mul-sub unit last first)) ∙ mod_scaled unit (last - first) step some fine.moves
    ∙ ap (λ x. unit * x) fine.reaches ∙ mul-zero unit

-- a unit of 1 changes nothing
pub scaled_one : (s : Series) → scaled 1 s ≡ s
scaled_one (One v) = let same : 1 * v ≡ v = omega arith in ap One same
scaled_one (Even first last step) =
    let a : 1 * first ≡ first = omega arith in
    let b : 1 * last ≡ last = omega arith in
    let c : 1 * step ≡ step = omega arith in
    λ i. Even (a i) (b i) (c i)
scaled_one Uneven = refl

-- ---- sums

-- a multiple adds nothing to a remainder
pub add_multiple : (m r d : ℕ) → m % d ≡ 0 → (m + r) % d ≡ r % d
add_multiple m r d none =
    let nothing : 0 + r ≡ r = omega arith in
    sym (mod-add-mod m d r) ∙ ap (λ x. (x + r) % d) none ∙ ap (λ x. x % d) nothing

multiple_times : (unit k d : ℕ) → unit % d ≡ 0 → unit * k % d ≡ 0
multiple_times unit k d none = mod-eq-zero_of_dvd d (dvd-mul_right_of_dvd d (dvd_of_mod-eq-zero d none) k)

-- a multiple less a number below the step is no multiple
less_than_multiple : (m r d : ℕ) → m % d ≡ 0 → r ≤ m → 0 < r → r < d → (m - r) % d ≡ 0 → ⊥
less_than_multiple m r d none fits some below is =
    let divides = (dvd-sub_iff_right d fits (dvd_of_mod-eq-zero d none)).0 (dvd_of_mod-eq-zero d is) in
    let most : d ≤ r = le_of_dvd some divides in
    omega arith

no_test : (m : ℕ) → (m ≡ 0 → ⊥) → (m == 0) ≡ false
no_test m none = ne_eqb m 0 none

-- outside of the numbers
before_all : (first last u step : ℕ) (b : Bool) → u < first → b ≡ false → steps_have first last step u ≡ b
before_all first last u step b before none = ap (λ x. x && (nat_le u last && ((u - first) % step == 0))) (lt_le first u before) ∙ sym none
  where
    lt_le : (first u : ℕ) → u < first → nat_le first u ≡ false
    lt_le first u before = grind (arith, nat_tests)

after_all : (first last u step : ℕ) (b : Bool) → last < u → b ≡ false → steps_have first last step u ≡ b
after_all first last u step b after none =
    ap (λ x. nat_le first u && (x && ((u - first) % step == 0))) (lt_le u last after) ∙ and_right (nat_le first u) false refl ∙ sym none
  where
    lt_le : (u last : ℕ) → last < u → nat_le u last ≡ false
    lt_le u last after = grind (arith, nat_tests)

-- no steps lead there
no_step : (first last u step : ℕ) (b : Bool) → ((u - first) % step ≡ 0 → ⊥) → b ≡ false → steps_have first last step u ≡ b
no_step first last u step b differ none =
    ap (λ x. nat_le first u && (nat_le u last && x)) (no_test ((u - first) % step) differ)
    ∙ ap (λ x. nat_le first u && x) (and_right (nat_le u last) false refl) ∙ and_right (nat_le first u) false refl ∙ sym none

-- the multiples of a unit in order
units_before : (unit a b : ℕ) → a < b → unit * a + unit ≤ unit * b
units_before unit a b less =
    let next : unit * (a + 1) ≡ unit * a + unit * 1 = mul-add unit a 1 in
    let one : unit * 1 ≡ unit = omega arith in
    let most : unit * (a + 1) ≤ unit * b = mul-le-mul_left unit (omega arith) in
    omega arith

one_one : (unit a b o i : ℕ) → b < unit → i < unit → (unit * a + b == unit * o + i) ≡ ((a == o) && (b == i))
one_one unit a b o i b_below i_below =
    elim (cases_lt a o) as (λ _. (unit * a + b == unit * o + i) ≡ ((a == o) && (b == i))) [
      | inl less ↦ apart_before (unit * a) (unit * o) unit a b o i (units_before unit a o less) b_below less
      | inr over ↦
          elim (cases_lt o a) as (λ _. (unit * a + b == unit * o + i) ≡ ((a == o) && (b == i))) [
            | inl more ↦ apart_after (unit * a) (unit * o) unit a b o i (units_before unit o a more) i_below more
            | inr under ↦
                let same : a ≡ o = omega arith in
                together (unit * a) (unit * o) a b o i same (ap (λ x. unit * x) same)
          ]
    ]
  where
    apart_before : (x y unit a b o i : ℕ) → x + unit ≤ y → b < unit → a < o → (x + b == y + i) ≡ ((a == o) && (b == i))
    apart_before x y unit a b o i far below less = grind (arith, nat_tests)

    apart_after : (x y unit a b o i : ℕ) → y + unit ≤ x → i < unit → o < a → (x + b == y + i) ≡ ((a == o) && (b == i))
    apart_after x y unit a b o i far below less = grind (arith, nat_tests)

    together : (x y a b o i : ℕ) → a ≡ o → x ≡ y → (x + b == y + i) ≡ ((a == o) && (b == i))
    together x y a b o i same equal = grind (arith, nat_tests)

one_even :
    (unit a first last step o i : ℕ) → first < unit → last < unit → i < unit →
    steps_have (unit * a + first) (unit * a + last) step (unit * o + i) ≡ ((a == o) && steps_have first last step i)
one_even unit a first last step o i first_below last_below i_below =
    elim (cases_lt a o) as (λ _. steps_have (unit * a + first) (unit * a + last) step (unit * o + i) ≡ ((a == o) && steps_have first last step i)) [
      | inl less ↦
          let far = units_before unit a o less in
          after_all (unit * a + first) (unit * a + last) (unit * o + i) step ((a == o) && steps_have first last step i) (omega arith)
          (and_left (a == o) (steps_have first last step i) (unequal a o (omega arith)))
      | inr over ↦
          elim (cases_lt o a) as (λ _. steps_have (unit * a + first) (unit * a + last) step (unit * o + i) ≡ ((a == o) && steps_have first last step i)) [
            | inl more ↦
                let far = units_before unit o a more in
                before_all (unit * a + first) (unit * a + last) (unit * o + i) step ((a == o) && steps_have first last step i) (omega arith)
                (and_left (a == o) (steps_have first last step i) (unequal a o (omega arith)))
            | inr under ↦
                let same : a ≡ o = omega arith in
                together (unit * a) (unit * o) a o first last step i same (ap (λ x. unit * x) same)
          ]
    ]
  where
    shifted :
        (x y a o first last i : ℕ) (b : Bool) → a ≡ o → x ≡ y →
        (nat_le (x + first) (y + i) && (nat_le (y + i) (x + last) && b)) ≡ ((a == o) && (nat_le first i && (nat_le i last && b)))
    shifted x y a o first last i b same equal = grind (arith, nat_tests)

    unequal : (a o : ℕ) → (a ≡ o → ⊥) → (a == o) ≡ false
    unequal a o differ = ne_eqb a o differ

    together :
        (x y a o first last step i : ℕ) → a ≡ o → x ≡ y → steps_have (x + first) (x + last) step (y + i) ≡ ((a == o) && steps_have first last step i)
    together x y a o first last step i same equal =
        let gap : y + i - (x + first) ≡ i - first = omega arith in
        ap (λ z. nat_le (x + first) (y + i) && (nat_le (y + i) (x + last) && (z % step == 0))) gap
        ∙ shifted x y a o first last i ((i - first) % step == 0) same equal

-- numbers that differ from the first by no multiple of the unit
not_aligned : (unit x y b i step : ℕ) → x % unit ≡ 0 → y % unit ≡ 0 → b < unit → i < unit → (b ≡ i → ⊥) → x + b ≤ y + i →
    (y + i - (x + b)) % (unit * step) ≡ 0 → ⊥
not_aligned unit x y b i step x_whole y_whole b_below i_below differ fits is =
    let none : (y + i - (x + b)) % unit ≡ 0 =
    mod-eq-zero_of_dvd unit (dvd_trans unit (dvd-mul_right unit step) (dvd_of_mod-eq-zero (unit * step) is)) in
    let sum : y + i ≡ y + i - (x + b) + (x + b) = omega arith in
    let left : (y + i) % unit ≡ b = ap (λ z. z % unit) sum ∙ add_multiple (y + i - (x + b)) (x + b) unit none
    ∙ add_multiple x b unit x_whole ∙ mod-eq_of_lt b_below in
    let right : (y + i) % unit ≡ i = add_multiple y i unit y_whole ∙ mod-eq_of_lt i_below in
    differ (sym left ∙ right)

even_one :
    (unit first last step b o i : ℕ) → 0 < step → b < unit → i < unit →
    steps_have (unit * first + b) (unit * last + b) (unit * step) (unit * o + i) ≡ (steps_have first last step o && (b == i))
even_one unit first last step b o i moves b_below i_below =
    elim (cases_eq b i) as (λ _. steps_have (unit * first + b) (unit * last + b) (unit * step) (unit * o + i) ≡ (steps_have first last step o && (b == i))) [
      | inl same ↦
          let gap : unit * o + i - (unit * first + b) ≡ unit * o - unit * first = omega arith in
          ap (λ z. nat_le (unit * first + b) (unit * o + i) && (nat_le (unit * o + i) (unit * last + b) && (z % (unit * step) == 0))) gap
          ∙ shifted (unit * first) (unit * last) (unit * o) b i ((unit * o - unit * first) % (unit * step) == 0) same
          ∙ ap (λ z. z && (b == i)) (steps_scaled unit first last step o (omega arith) moves)
      | inr differ ↦
          elim (cases_lt (unit * o + i) (unit * first + b)) as (λ _. steps_have (unit * first + b) (unit * last + b) (unit * step)
          (unit * o + i) ≡ (steps_have first last step o && (b == i))) [
            | inl before ↦
                before_all (unit * first + b) (unit * last + b) (unit * o + i) (unit * step) (steps_have first last step o && (b == i)) before
                (and_right (steps_have first last step o) (b == i) (ne_eqb b i differ))
            | inr fits ↦
                let none = no_test ((unit * o + i - (unit * first + b)) % (unit * step))
                (not_aligned unit (unit * first) (unit * o) b i step (mul-mod_right unit first) (mul-mod_right unit o) b_below i_below differ fits) in
                ap (λ z. nat_le (unit * first + b) (unit * o + i) && (nat_le (unit * o + i) (unit * last + b) && z)) none
                ∙ ap (λ z. nat_le (unit * first + b) (unit * o + i) && z) (and_right (nat_le (unit * o + i) (unit * last + b)) false refl)
                ∙ and_right (nat_le (unit * first + b) (unit * o + i)) false refl
                ∙ sym (and_right (steps_have first last step o) (b == i) (ne_eqb b i differ))
          ]
    ]
  where
    shifted :
        (x z y b i : ℕ) (t : Bool) → b ≡ i →
        (nat_le (x + b) (y + i) && (nat_le (y + i) (z + b) && t)) ≡ ((nat_le x y && (nat_le y z && t)) && (b == i))
    shifted x z y b i t same = grind (arith, nat_tests)

-- within the outer series, given as multiples of the unit: y is one, from x to z
within :
    (x z y unit g h step i : ℕ) (t : Bool) → x ≤ y → y ≤ z → (y ≡ x) ⊎ (x + unit ≤ y) → (y - x) % step ≡ 0 → IsEven g h step → h < unit →
    g + unit ≡ h + step → i < unit → t ≡ true → steps_have (x + g) (z + h) step (y + i) ≡ (t && steps_have g h step i)
within x z y unit g h step i t low high place whole fine below round i_below is =
    elim (cases_lt i g) as (λ _. steps_have (x + g) (z + h) step (y + i) ≡ (t && steps_have g h step i)) [
      | inl before ↦
          elim place as (λ _. steps_have (x + g) (z + h) step (y + i) ≡ (t && steps_have g h step i)) [
            | inl same ↦
                before_all (x + g) (z + h) (y + i) step (t && steps_have g h step i) (omega arith)
                (and_right t (steps_have g h step i) (before_all g h i step false before refl))
            | inr far ↦
                let gap : y + i - (x + g) ≡ y - x - (g - i) = omega (arith, fine.forwards) in
                let differ = less_than_multiple (y - x) (g - i) step whole (omega (arith, fine.forwards)) (omega arith) (omega (arith, fine.forwards)) in
                no_step (x + g) (z + h) (y + i) step (t && steps_have g h step i) (λ none. differ (ap (λ u. u % step) (sym gap) ∙ none))
                (and_right t (steps_have g h step i) (before_all g h i step false before refl))
          ]
      | inr from ↦
          let gap : y + i - (x + g) ≡ y - x + (i - g) = omega arith in
          let same : (y + i - (x + g)) % step ≡ (i - g) % step = ap (λ u. u % step) gap ∙ add_multiple (y - x) (i - g) step whole in
          elim (cases_lt h i) as (λ _. steps_have (x + g) (z + h) step (y + i) ≡ (t && steps_have g h step i)) [
            | inl after ↦
                let order = fine.forwards in
                let more : i - g ≡ h - g + (i - h) = omega arith in
                let rest : (i - g) % step ≡ i - h =
                ap (λ u. u % step) more ∙ add_multiple (h - g) (i - h) step fine.reaches ∙ mod-eq_of_lt (omega arith) in
                no_step (x + g) (z + h) (y + i) step (t && steps_have g h step i)
                (λ none. let zero_rest : i - h ≡ 0 = sym rest ∙ sym same ∙ none in absurd (omega arith))
                (and_right t (steps_have g h step i) (after_all g h i step false after refl))
            | inr to ↦
                ap (λ u. nat_le (x + g) (y + i) && (nat_le (y + i) (z + h) && (u == 0))) same
                ∙ all_in x z y g h i t ((i - g) % step == 0) low high from to is
          ]
    ]
  where
    all_in :
        (x z y g h i : ℕ) (t b : Bool) → x ≤ y → y ≤ z → g ≤ i → i ≤ h → t ≡ true →
        (nat_le (x + g) (y + i) && (nat_le (y + i) (z + h) && b)) ≡ (t && (nat_le g i && (nat_le i h && b)))
    all_in x z y g h i t b low high from to is = grind (arith, nat_tests)

-- an inner series that goes on where the next unit begins
even_even :
    (unit first last g h step o i : ℕ) → IsEven g h step → h < unit → g + unit ≡ h + step → i < unit →
    steps_have (unit * first + g) (unit * last + h) step (unit * o + i) ≡ (steps_have first last 1 o && steps_have g h step i)
even_even unit first last g h step o i fine below round i_below =
    elim (cases_lt o first) as (λ _. steps_have (unit * first + g) (unit * last + h) step (unit * o + i)
    ≡ (steps_have first last 1 o && steps_have g h step i)) [
      | inl less ↦
          let far = units_before unit o first less in
          before_all (unit * first + g) (unit * last + h) (unit * o + i) step (steps_have first last 1 o && steps_have g h step i) (omega arith)
          (and_left (steps_have first last 1 o) (steps_have g h step i) (before_all first last o 1 false less refl))
      | inr from ↦
          elim (cases_lt last o) as (λ _. steps_have (unit * first + g) (unit * last + h) step (unit * o + i)
          ≡ (steps_have first last 1 o && steps_have g h step i)) [
            | inl more ↦
                let far = units_before unit last o more in
                after_all (unit * first + g) (unit * last + h) (unit * o + i) step (steps_have first last 1 o && steps_have g h step i) (omega arith)
                (and_left (steps_have first last 1 o) (steps_have g h step i) (after_all first last o 1 false more refl))
            | inr to ↦
                within (unit * first) (unit * last) (unit * o) unit g h step i (steps_have first last 1 o) (mul-le-mul_left unit from) (mul-le-mul_left unit to)
                (place unit first o from) whole fine below round i_below (inside first last o from to)
          ]
    ]
  where
    place : (unit first o : ℕ) → first ≤ o → (unit * o ≡ unit * first) ⊎ (unit * first + unit ≤ unit * o)
    place unit first o from =
        elim (cases_lt first o) as (λ _. (unit * o ≡ unit * first) ⊎ (unit * first + unit ≤ unit * o)) [
          | inl less ↦ inr (units_before unit first o less)
          | inr over ↦ let same : o ≡ first = omega arith in inl (ap (λ x. unit * x) same)
        ]

    divides : unit % step ≡ 0
    divides = let sum : unit ≡ h - g + step = omega (arith, fine.forwards) in ap (λ x. x % step) sum ∙ add-mod_right (h - g) step ∙ fine.reaches

    whole : (unit * o - unit * first) % step ≡ 0
    whole = ap (λ x. x % step) (sym (mul-sub unit o first)) ∙ multiple_times unit (o - first) step divides

    all_true : (first last o m : ℕ) → first ≤ o → o ≤ last → m ≡ 0 → (nat_le first o && (nat_le o last && (m == 0))) ≡ true
    all_true first last o m from to none = grind (arith, nat_tests)

    inside : (first last o : ℕ) → first ≤ o → o ≤ last → steps_have first last 1 o ≡ true
    inside first last o from to = let none : (o - first) % 1 ≡ 0 = omega arith in all_true first last o ((o - first) % 1) from to none

-- what is known of series within limits
below_parts : (limit first last step : ℕ) → is_below limit (Even first last step) ≡ true → (first < limit) × (last < limit)
below_parts limit first last step is =
    let parts = and_parts (nat_lt first limit) (nat_lt last limit && nat_lt step limit) is in
    (lt_test first limit parts.0, lt_test last limit (and_parts (nat_lt last limit) (nat_lt step limit) parts.1).0)

-- the sums of the numbers of an outer series, in units, and an inner one
pub sums_of_has :
    (unit : ℕ) (outer inner : Series) (o i : ℕ) → IsSeries outer → IsSeries inner → is_below unit inner ≡ true → i < unit →
    is_series (sums_of (scaled unit outer) unit inner) ≡ true →
    series_has (sums_of (scaled unit outer) unit inner) (unit * o + i) ≡ (series_has outer o && series_has inner i)
sums_of_has unit (One a) (One b) o i outer_fine inner_fine below i_below is = one_one unit a b o i (lt_test b unit below) i_below
sums_of_has unit (One a) (Even first last step) o i outer_fine inner_fine below i_below is =
    let parts = below_parts unit first last step below in one_even unit a first last step o i parts.0 parts.1 i_below
sums_of_has unit (One a) Uneven o i outer_fine inner_fine below i_below is = absurd (cc)
sums_of_has unit (Even first last step) (One b) o i outer_fine inner_fine below i_below is =
    even_one unit first last step b o i outer_fine.moves (lt_test b unit below) i_below
sums_of_has unit (Even first last step) (Even g h inner_step) o i outer_fine inner_fine below i_below is =
    go ((unit * step == unit) && (g + unit == h + inner_step)) refl is
  where
    one_unit : (unit step : ℕ) → 0 < unit → unit * step ≡ unit → step ≡ 1
    one_unit unit step some same =
        elim (cases_lt 1 step) as (λ _. step ≡ 1) [
          | inl more ↦ let far = units_before unit 1 step more in let one : unit * 1 ≡ unit = omega arith in absurd (omega arith)
          | inr less ↦
              elim (cases_lt 0 step) as (λ _. step ≡ 1) [
                | inl fits ↦ omega arith
                | inr none ↦ let zero_step : step ≡ 0 = omega arith in
                    let nothing : unit * step ≡ 0 = ap (λ x. unit * x) zero_step ∙ mul-zero unit in absurd (omega arith)
              ]
        ]

    go :
        (b : Bool) → ((unit * step == unit) && (g + unit == h + inner_step)) ≡ b →
        is_series (if b then Even (unit * first + g) (unit * last + h) inner_step else Uneven) ≡ true →
        series_has (if b then Even (unit * first + g) (unit * last + h) inner_step else Uneven) (unit * o + i)
        ≡ (steps_have first last step o && steps_have g h inner_step i)
    go true tests is =
        let parts = and_parts (unit * step == unit) (g + unit == h + inner_step) tests in
        let same = one_unit unit step (omega arith) (equal_test (unit * step) unit parts.0) in
        even_even unit first last g h inner_step o i inner_fine (below_parts unit g h inner_step below).1
        (equal_test (g + unit) (h + inner_step) parts.1) i_below
        ∙ ap (λ s. steps_have first last s o && steps_have g h inner_step i) (sym same)
    go false tests is = absurd (cc)
sums_of_has unit (Even first last step) Uneven o i outer_fine inner_fine below i_below is = absurd (cc)
sums_of_has unit Uneven inner o i outer_fine inner_fine below i_below is = absurd (cc)

-- sums are a series
pub sums_of_fine :
    (unit : ℕ) (outer inner : Series) → 0 < unit → IsSeries outer → IsSeries inner → is_below unit inner ≡ true →
    IsSeries (sums_of (scaled unit outer) unit inner)
sums_of_fine unit (One a) (One b) some outer_fine inner_fine below = tt
sums_of_fine unit (One a) (Even first last step) some outer_fine inner_fine below =
    let order = inner_fine.forwards in
    let gap : unit * a + last - (unit * a + first) ≡ last - first = omega arith in
    record { moves = inner_fine.moves; forwards = omega arith; reaches = ap (λ x. x % step) gap ∙ inner_fine.reaches }
sums_of_fine unit (One a) Uneven some outer_fine inner_fine below = tt
sums_of_fine unit (Even first last step) (One b) some outer_fine inner_fine below =
    let order : unit * first ≤ unit * last = mul-le-mul_left unit outer_fine.forwards in
    let gap : unit * last + b - (unit * first + b) ≡ unit * last - unit * first = omega arith in
    record {
      moves = mul-pos some outer_fine.moves;
      forwards = omega arith;
      reaches = ap (λ x. x % (unit * step)) gap ∙ reaches_scaled unit first last step some outer_fine;
    }
sums_of_fine unit (Even first last step) (Even g h inner_step) some outer_fine inner_fine below =
    go ((unit * step == unit) && (g + unit == h + inner_step)) refl
  where
    go :
        (b : Bool) → ((unit * step == unit) && (g + unit == h + inner_step)) ≡ b →
        IsSeries (if b then Even (unit * first + g) (unit * last + h) inner_step else Uneven)
    go true tests =
        let parts = and_parts (unit * step == unit) (g + unit == h + inner_step) tests in
        let round = equal_test (g + unit) (h + inner_step) parts.1 in
        let inner_order = inner_fine.forwards in
        let order : unit * first ≤ unit * last = mul-le-mul_left unit outer_fine.forwards in
        let sum : unit ≡ h - g + inner_step = omega arith in
        let divides : unit % inner_step ≡ 0 = ap (λ x. x % inner_step) sum ∙ add-mod_right (h - g) inner_step ∙ inner_fine.reaches in
        let gap : unit * last + h - (unit * first + g) ≡ unit * last - unit * first + (h - g) = omega arith in
        let whole : (unit * last - unit * first) % inner_step ≡ 0 =
        ap (λ x. x % inner_step) (sym (mul-sub unit last first)) ∙ multiple_times unit (last - first) inner_step divides in
        record {
          moves = inner_fine.moves;
          forwards = omega arith;
          reaches = ap (λ x. x % inner_step) gap ∙ add_multiple (unit * last - unit * first) (h - g) inner_step whole ∙ inner_fine.reaches;
        }
    go false tests = tt
sums_of_fine unit (Even first last step) Uneven some outer_fine inner_fine below = tt
sums_of_fine unit Uneven inner some outer_fine inner_fine below = tt

-- the same within a day
pub sums_have :
    (unit : ℕ) (outer inner : Series) (o i : ℕ) → IsSeries outer → IsSeries inner → i < unit → is_series (sums (scaled unit outer) unit inner) ≡ true →
    series_has (sums (scaled unit outer) unit inner) (unit * o + i) ≡ (series_has outer o && series_has inner i)
sums_have unit outer inner o i outer_fine inner_fine i_below is = go (is_below day (scaled unit outer) && is_below unit inner) refl is
  where
    go :
        (b : Bool) → (is_below day (scaled unit outer) && is_below unit inner) ≡ b →
        is_series (if b then sums_of (scaled unit outer) unit inner else Uneven) ≡ true →
        series_has (if b then sums_of (scaled unit outer) unit inner else Uneven) (unit * o + i) ≡ (series_has outer o && series_has inner i)
    go true tests is =
        sums_of_has unit outer inner o i outer_fine inner_fine (and_parts (is_below day (scaled unit outer)) (is_below unit inner) tests).1 i_below is
    go false tests is = absurd (cc)

pub sums_fine : (unit : ℕ) (outer inner : Series) → 0 < unit → IsSeries outer → IsSeries inner → IsSeries (sums (scaled unit outer) unit inner)
sums_fine unit outer inner some outer_fine inner_fine = go (is_below day (scaled unit outer) && is_below unit inner) refl
  where
    go : (b : Bool) → (is_below day (scaled unit outer) && is_below unit inner) ≡ b → IsSeries (if b then sums_of (scaled unit outer) unit inner else Uneven)
    go true tests = sums_of_fine unit outer inner some outer_fine inner_fine (and_parts (is_below day (scaled unit outer)) (is_below unit inner) tests).1
    go false tests = tt

-- the parts of sums are series
pub parts_are_series : (unit : ℕ) (outer inner : Series) → is_series (sums (scaled unit outer) unit inner) ≡ true →
    (is_series outer ≡ true) × (is_series inner ≡ true)
parts_are_series unit outer inner is = go (is_below day (scaled unit outer) && is_below unit inner) refl is
  where
    known : (limit : ℕ) (s : Series) → is_below limit s ≡ true → is_series s ≡ true
    known limit (One v) is = refl
    known limit (Even first last step) is = refl
    known limit Uneven is = absurd (cc)

    known_scaled : (limit unit : ℕ) (s : Series) → is_below limit (scaled unit s) ≡ true → is_series s ≡ true
    known_scaled limit unit (One v) is = refl
    known_scaled limit unit (Even first last step) is = refl
    known_scaled limit unit Uneven is = absurd (cc)

    go :
        (b : Bool) → (is_below day (scaled unit outer) && is_below unit inner) ≡ b →
        is_series (if b then sums_of (scaled unit outer) unit inner else Uneven) ≡ true → (is_series outer ≡ true) × (is_series inner ≡ true)
    go true tests is =
        let parts = and_parts (is_below day (scaled unit outer)) (is_below unit inner) tests in
        (known_scaled day unit outer parts.0, known unit inner parts.1)
    go false tests is = absurd (cc)
