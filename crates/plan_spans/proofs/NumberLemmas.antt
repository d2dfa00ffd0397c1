-- The digits of a number, read one by one.
-- For `cut_digits`, and for the loops of `whole_number` and `fraction_micros`. Their invariants go by the digits that are
-- left.
use Rattle.std.proofs.Common.{◌≡◌, ℕ, ◌+◌, ◌-◌, ◌*◌, ◌/◌, ◌^◌, ◌<◌, ◌≤◌, Bool, true, cond, nat_lt, Some, None, refl, add_assoc, List, [], ◌∷◌, length, take, drop, get_or, ap, sym, ◌∙◌, arith, length-take-le, add-one}
use Rattle.std.proofs.Math.Nat.{div-div-eq-div-mul, div-mul-le_self, mul-le-mul_right, pow-suc}
use Rattle.std.proofs.lemmas.List.{drop_more, get_or-take}
use Rattle.std.proofs.lemmas.List.Sums.{prefix_len-le-length, prefix_len_passes, list_all-from_AllPass, AllPass-from_list_all}
use Rattle.std.proofs.lemmas.Bool.{le-ltb}
use Rattle.std.proofs.lemmas.Bool.Decides.{nat_tests}
use Rattle.std.specs.Char.{is_ascii_digit}
use Rattle.std.specs.List.{prefix_len, list_all}
use Rattle.plan_texts.specs.Text.{digits_after}
use Rattle.plan_spans.specs.Spans.{fraction_from}

-- all elements of the longest front that passes a test pass it
pub front_passes : (p : ℕ → Bool) (xs : List ℕ) → list_all p (take (prefix_len p xs) xs) ≡ true
front_passes p xs =
    let n = prefix_len p xs in
    let whole : prefix_len p xs ≤ length xs = prefix_len-le-length p xs in
    list_all-from_AllPass p (take (prefix_len p xs) xs)
    (λ k d inside. (let before : k < prefix_len p xs = omega (arith, length-take-le n xs whole) in
    ap p (get_or-take n xs k d before) ∙ prefix_len_passes p xs k d before))

-- more digits make no smaller number
pub digits_after-grows : (before : ℕ) (digits : List ℕ) → before ≤ digits_after before digits
digits_after-grows before [] = omega arith
digits_after-grows before (digit ∷ more) =
    let rest = digits_after-grows (before * 10 + (digit - 48)) more in
    omega arith

-- one more digit is read
pub digits_after-more :
    (before : ℕ) (digits : List ℕ) (i : ℕ) → i < length digits →
    digits_after before (drop i digits) ≡ digits_after (before * 10 + (get_or digits i 0 - 48)) (drop (i + 1) digits)
digits_after-more before digits i inside = ap (digits_after before) (drop_more digits i 0 inside)

-- one more digit after the point is read
pub fraction_from-more :
    (unit place : ℕ) (digits : List ℕ) (i : ℕ) → i < length digits →
    fraction_from unit place (drop i digits)
    ≡ (get_or digits i 0 - 48) * (unit / 10 ^ place) + fraction_from unit (place + 1) (drop (i + 1) digits)
fraction_from-more unit place digits i inside = ap (fraction_from unit place) (drop_more digits i 0 inside)

-- the unit / 10 ^ place, from place to place
pub next_part : (unit place : ℕ) → unit / 10 ^ place / 10 ≡ unit / 10 ^ (place + 1)
next_part unit place =
    div-div-eq-div-mul unit (10 ^ place) 10 ∙ ap (λ n. unit / n) (sym (pow-suc 10 place) ∙ ap (λ k. 10 ^ k) (sym (add-one place)))

-- a digit and the part that is left after it are at most the part before it
pub part_room : (digit part : ℕ) → digit ≤ 9 → digit * (part / 10) + part / 10 ≤ part
part_room digit part small =
    let whole : part / 10 * 10 ≤ part = div-mul-le_self part 10 in
    let most : digit * (part / 10) ≤ 9 * (part / 10) = mul-le-mul_right (part / 10) small in
    omega arith

-- one more digit after the point is counted
pub fraction_step :
    (unit sum part digit total : ℕ) (digits : List ℕ) (i : ℕ) → i < length digits → part ≡ unit / 10 ^ i →
    digit ≡ get_or digits i 0 - 48 → sum + fraction_from unit (i + 1) (drop i digits) ≡ total →
    sum + digit * (part / 10) + fraction_from unit (i + 1 + 1) (drop (i + 1) digits) ≡ total
fraction_step unit sum part digit total digits i inside part_is digit_is left =
    let next : part / 10 ≡ unit / 10 ^ (i + 1) = ap (λ n. n / 10) part_is ∙ next_part unit i in
    let rest = fraction_from unit (i + 1 + 1) (drop (i + 1) digits) in
    let product : digit * (part / 10) ≡ (get_or digits i 0 - 48) * (unit / 10 ^ (i + 1)) =
    ap (λ d. d * (part / 10)) digit_is ∙ ap (λ p. (get_or digits i 0 - 48) * p) next in
    ap (λ k. sum + k + rest) product
    ∙ add_assoc sum ((get_or digits i 0 - 48) * (unit / 10 ^ (i + 1))) rest
    ∙ ap (λ k. sum + k) (sym (fraction_from-more unit (i + 1) digits i inside))
    ∙ left

-- a digit is at most 9
pub digit_small : (digits : List ℕ) (i : ℕ) → list_all is_ascii_digit digits ≡ true → i < length digits → get_or digits i 0 - 48 ≤ 9
digit_small digits i all inside =
    let here : is_ascii_digit (get_or digits i 0) ≡ true = AllPass-from_list_all is_ascii_digit digits all i 0 inside in
    grind (arith, nat_tests)

-- a number that is too large while it is read
pub too_large :
    (n : ℕ) (digits : List ℕ) (i : ℕ) → i < length digits → digits_after n (drop i digits) ≡ digits_after 0 digits →
    2 ^ 64 ≤ n * 10 + (get_or digits i 0 - 48) →
    None ≡ cond (nat_lt (digits_after 0 digits) (2 ^ 63)) (Some (digits_after 0 digits)) None
too_large n digits i inside left large =
    let grows = digits_after-grows (n * 10 + (get_or digits i 0 - 48)) (drop (i + 1) digits) in
    let whole = sym (digits_after-more n digits i inside) ∙ left in
    let past : 2 ^ 63 ≤ digits_after 0 digits = omega arith in
    rw (le-ltb (digits_after 0 digits) (2 ^ 63) past) refl
