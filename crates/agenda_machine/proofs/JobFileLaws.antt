-- The number of a line is read back from the name of its job.
use Rattle.std.proofs.Common.{◌≡◌, ℕ, suc, ◌+◌, ◌<◌, ◌&&◌, true, false, cond, nat_lt, List, [], ◌∷◌, ◌++◌, length, take, drop, Some, None, refl, ap, sym, ◌∙◌, arith}
use Rattle.std.specs.Char.{is_ascii_digit}
use Rattle.std.specs.Fmt.{decimal}
use Rattle.std.specs.List.{list_all, list_any, position_or_len}
use Rattle.std.specs.Str.{all_ascii_digits, bytes_eq}
use Rattle.std.proofs.lemmas.Bool.{and_from, cond-true, lt-ltb, or_parts}
use Rattle.std.proofs.lemmas.Bool.Decides.{nat_tests}
use Rattle.std.proofs.lemmas.Fmt.{digits_decimal}
use Rattle.std.proofs.lemmas.Grind.{common_steps}
use Rattle.std.proofs.lemmas.List.{length-append}
use Rattle.std.proofs.lemmas.Slice.Eq.{bytes_eq-Decides}
use Rattle.std.proofs.lemmas.Str.Parse.{numerals_by_value, tells_all_ascii_digits}
use Rattle.agenda_machine.specs.JobFiles.{LinesAreInNames, cut_name, is_colon, line_by}

-- the first colon after a text without any
colon_after : (label rest : List ℕ) → list_any is_colon label ≡ false → position_or_len is_colon (label ++ (58 ∷ rest)) ≡ length label
colon_after [] rest none = refl
colon_after (b ∷ label) rest none =
    let parts = or_parts (is_colon b) (list_any is_colon label) none in
    grind (arith, nat_tests, common_steps, parts.0, colon_after label rest parts.1)

before : (xs ys : List ℕ) → take (length xs) (xs ++ ys) ≡ xs
before [] ys = refl
before (x ∷ xs) ys = ap (λ more. x ∷ more) (before xs ys)

after : (xs ys : List ℕ) (y : ℕ) → drop (suc (length xs)) (xs ++ (y ∷ ys)) ≡ ys
after [] ys y = refl
after (x ∷ xs) ys y = after xs ys y

digits_are : (ds : List ℕ) → all_ascii_digits ds ≡ list_all is_ascii_digit ds
digits_are [] = refl
digits_are (d ∷ ds) = ap (λ more. is_ascii_digit d && more) (digits_are ds)

same : (text : List ℕ) → bytes_eq text text ≡ true
same text = (bytes_eq-Decides text text).1 refl

cut_there :
    (label rest : List ℕ) → list_any is_colon label ≡ false → cut_name (label ++ (58 ∷ rest)) ≡ Some (label, rest)
unfolding cut_name
cut_there label rest none =
    let name = label ++ (58 ∷ rest) in
    let place = colon_after label rest none in
    let next : length label + 1 ≡ suc (length label) = omega arith in
    let inside : length label < length name = omega (arith, length-append label (58 ∷ rest)) in
    ap (λ n. cond (nat_lt n (length name)) (Some (take n name, drop (n + 1) name)) None) place
    ∙ cond-true _ _ _ (lt-ltb (length label) (length name) inside)
    ∙ (λ i. Some (before label (58 ∷ rest) i, (ap (λ n. drop n name) next ∙ after label rest 58) i))

pub lines_are_in_names : LinesAreInNames
lines_are_in_names label number none small =
    let digits = sym (digits_are (decimal number))
    ∙ digits_decimal (numerals_by_value (λ ds. all_ascii_digits ds ≡ true) tells_all_ascii_digits) number small in
    ap (line_by label) (cut_there label (decimal number) none)
    ∙ cond-true _ _ _ (and_from (bytes_eq label label) (list_all is_ascii_digit (decimal number)) (same label) digits)
