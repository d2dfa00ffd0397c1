-- What `parse` reads as a number of 32 bits is the number of a user.
use Rattle.std.proofs.Common.{◌≡◌, ◌∙◌, ℕ, ◌<◌, ◌≤◌, ◌^◌, Bool, true, false, not, ◌&&◌, ◌==◌, nat_lt, cond, List, [], ◌∷◌, length, map, Result, Ok, Err, Some, None, Bor, ap, refl, sym, arith, rules}
use Rattle.std.proofs.Math.ListN.{get_or}
use Rattle.std.proofs.lemmas.Bool.{and_parts}
use Rattle.std.proofs.lemmas.Bool.Decides.{nat_tests}
use Rattle.std.proofs.lemmas.Str.Parse.{IsNumeralModel, numerals_by_fold}
use Rattle.std.specs.Char.{is_ascii_digit}
use Rattle.std.specs.List.{list_all}
use Rattle.std.specs.Str.{is_utf8}
use Rattle.std.specs.Result.{OkIff, result_ok}
use Rattle.std.specs.Str.Parse.{IsNumeral, ParsesUnsigned, digits_value, without_leading_plus}
use Rattle.plan_owners.specs.Users.{home_in, id_of, number_by, user_by}
use Rattle.plan_texts.specs.Text.{digits_after}

-- decimal digits and their value, as the library defines them
own : IsNumeralModel (λ ds. list_all is_ascii_digit ds ≡ true) (digits_after 0)
own = numerals_by_fold _ (search rules) digits_after (search rules)

not_empty : (ds : List ℕ) → 0 < length ds → not (length ds == 0) ≡ true
not_empty ds some = grind (arith, nat_tests, some)

some_digit : (ds : List ℕ) → not (length ds == 0) ≡ true → 0 < length ds
some_digit ds some = grind (arith, nat_tests, some)

guarded : (a b c : Bool) (value n : ℕ) → a ≡ true → b ≡ true → c ≡ true → value ≡ n → Some n ≡ cond (a && (b && c)) (Some value) None
guarded a b c value n p q r is = rw (p, q, r) (ap Some (sym is))

by_digits :
    {E : Type 0} (ds : List ℕ) (r : Result ℕ E) → OkIff r (IsNumeral 10 ds × (digits_value 10 ds < 2 ^ 32)) (digits_value 10 ds) →
    result_ok r ≡ number_by ds
by_digits ds (Ok n) read =
    let value = own.same ds read.0.0.1 in
    guarded (not (length ds == 0)) (list_all is_ascii_digit ds) (nat_lt (digits_after 0 ds) 4294967296) (digits_after 0 ds) n
    (not_empty ds read.0.0.0) (own.from ds read.0.0.1) (grind (arith, nat_tests, value, read.0.1)) (value ∙ sym read.1)
by_digits ds (Err fault) other = by_test (not (length ds == 0) && (list_all is_ascii_digit ds && nat_lt (digits_after 0 ds) 4294967296)) refl
  where
    by_test :
        (t : Bool) → (not (length ds == 0) && (list_all is_ascii_digit ds && nat_lt (digits_after 0 ds) 4294967296)) ≡ t →
        None ≡ cond t (Some (digits_after 0 ds)) None
    by_test false is = refl
    by_test true is =
        let parts = and_parts (not (length ds == 0)) (list_all is_ascii_digit ds && nat_lt (digits_after 0 ds) 4294967296) is in
        let more = and_parts (list_all is_ascii_digit ds) (nat_lt (digits_after 0 ds) 4294967296) parts.1 in
        let digits = own.to ds more.0 in
        absurd (other ((some_digit ds parts.0, digits), grind (arith, nat_tests, own.same ds digits, more.1)))

pub parsed : {E : Type 0} (text : List ℕ) (r : Result ℕ E) → ParsesUnsigned 32 10 text r → result_ok r ≡ id_of text
parsed text r read = by_digits (without_leading_plus text) r read

-- a line of fewer than four fields has no user
pub too_few : (fields : List (Bor (List ℕ))) → length fields < 4 → user_by (map (λ field. field.now) fields) ≡ None
too_few [] few = refl
too_few (name ∷ []) few = refl
too_few (name ∷ password ∷ []) few = refl
too_few (name ∷ password ∷ number ∷ []) few = refl
too_few (name ∷ password ∷ number ∷ group ∷ more) few = absurd (omega (arith, few))

-- the home directory is the second field after the group, if that is a text
pub home_is :
    (is : Bool) (none : Bor (List ℕ)) (fields : List (Bor (List ℕ))) → 2 ≤ length fields → is_utf8 (get_or fields 1 none).now ≡ is →
    cond is (get_or fields 1 none).now [] ≡ home_in (map (λ field. field.now) fields)
home_is is none [] some text = absurd (omega (arith, some))
home_is is none (comment ∷ []) some text = absurd (omega (arith, some))
home_is is none (comment ∷ home ∷ more) some text = ap (λ t. cond t home.now []) (sym text)
