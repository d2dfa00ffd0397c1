-- The number that the decimal text of a number writes: `decimal_number-written` is for clause `written` of `number`. What
-- std proves about decimal texts also holds for `digits_after`, since that is a fold over the digits (`own`).
use Rattle.std.proofs.Common.{◌≡◌, ℕ, ◌<◌, ◌≤◌, ◌^◌, Bool, true, ◌&&◌, cond, length, Some, None, ap, arith, rules}
use Rattle.std.specs.Char.{is_ascii_digit}
use Rattle.std.specs.Fmt.{decimal}
use Rattle.std.specs.List.{list_all}
use Rattle.std.proofs.lemmas.Bool.{le-leb}
use Rattle.std.proofs.lemmas.Fmt.{decimal_nonempty, length-decimal-le, digits_decimal, digits_value-decimal}
use Rattle.std.proofs.lemmas.Str.Parse.{IsNumeralModel, numerals_by_fold}
use Rattle.plan_texts.specs.Text.{digits_after, decimal_number}

-- decimal digits and their value, as the library defines them
own : IsNumeralModel (λ ds. list_all is_ascii_digit ds ≡ true) (digits_after 0)
own = numerals_by_fold _ (search rules) digits_after (search rules)

guarded : (a b c : Bool) (value n : ℕ) → a ≡ true → b ≡ true → c ≡ true → value ≡ n → cond (a && (b && c)) (Some value) None ≡ Some n
guarded a b c value n p q r is = rw (p, q, r) (ap Some is)

-- the decimal text of a number below 10,000 writes that number
pub decimal_number-written : (n : ℕ) → n < 10000 → decimal_number (decimal n) ≡ Some n
unfolding decimal_number
decimal_number-written n small =
    let within : n < 2 ^ 64 = omega arith in
    let some : 1 ≤ length (decimal n) = decimal_nonempty n within in
    let few : length (decimal n) ≤ 4 = length-decimal-le 4 n (omega arith) small within in
    guarded _ _ _ (digits_after 0 (decimal n)) n (le-leb 1 (length (decimal n)) some) (le-leb (length (decimal n)) 4 few)
    (digits_decimal own n within) (digits_value-decimal own n within)
