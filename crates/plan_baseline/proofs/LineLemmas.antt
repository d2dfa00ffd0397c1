-- A line and its columns, and what is read of the header of a text.
use Rattle.std.proofs.Common.{◌≡◌, ℕ, zero, suc, ◌-◌, ◌<◌, ◌≤◌, ◌==◌, ◌||◌, nat_lt, Bool, IsTrue, true, false, true≢false, if◌then◌else◌, List, [], ◌∷◌, ◌++◌, length, drop, Option, None, Some, IfNone, IfSome, option_map, Result, Ok, Err, ◌↔◌, ap, arith, inl, inr, refl, subst, sym, ◌∙◌}
use Rattle.std.proofs.lemmas.Bool.{and_parts, cases_Bool}
use Rattle.std.proofs.lemmas.Bool.Decides.{nat_tests}
use Rattle.std.proofs.lemmas.List.{append_assoc, drop_at, length-append}
use Rattle.std.proofs.lemmas.List.Folds.{list_any-append}
use Rattle.std.proofs.lemmas.Option.{same_Some}
use Rattle.std.proofs.lemmas.Str.{IsUtf8-append, IsUtf8-from_ascii, IsUtf8-from_is_utf8, is_utf8-from_IsUtf8}
use Rattle.std.specs.List.{list_all}
use Rattle.std.specs.Result.{result_ok}
use Rattle.std.specs.Str.{IsAscii, IsUtf8, is_utf8}
use Rattle.plan_texts.specs.Text.{cut_at}
use Rattle.plan_next.specs.Span.{Bounds}
use Rattle.plan_next.specs.declared.span.SpanFault.{SpanFault}
use Rattle.plan_next.specs.declared.span.SpanFault.TheVariants.{Backwards, OutOfYears}
use Rattle.plan_sets.specs.Limits.{end_second}
use Rattle.plan_baseline.specs.declared.lines.Header.{Header}
use Rattle.plan_baseline.specs.ReadBack.{HasNone}
use Rattle.plan_baseline.specs.Reading.{AreBounds, Head, IsHeader, IsHeadRead, columns, first_line, head_of, second_column, utf8_line}
use Rattle.plan_baseline.specs.Times.{IsTimeOf}
use Rattle.plan_baseline.proofs.CutLemmas.{cut_again, cut_first}
use Rattle.plan_baseline.proofs.TimeLemmas.{time_unique}

-- ---- a line from its columns

pub none_append : (byte : ℕ) (a b : List ℕ) → HasNone byte a → HasNone byte b → HasNone byte (a ++ b)
none_append byte a b first second = list_any-append (λ x. x == byte) a b ∙ (λ i. first i || second i)

each_below : (text : List ℕ) → list_all (λ b. nat_lt b 128) text ≡ true → IsAscii text
each_below [] all k = omega arith
each_below (b ∷ more) all zero = grind (arith, nat_tests)
each_below (b ∷ more) all (suc k) = each_below more (and_parts (nat_lt b 128) (list_all (λ b. nat_lt b 128) more) all).1 k

pub ascii_utf8 : (text : List ℕ) → list_all (λ b. nat_lt b 128) text ≡ true → IsUtf8 text
ascii_utf8 text all = IsUtf8-from_ascii text (each_below text all)

pub tab_utf8 : (rest : List ℕ) → IsUtf8 rest → IsUtf8 (9 ∷ rest)
tab_utf8 rest utf8 = IsUtf8-append (9 ∷ []) rest (ascii_utf8 (9 ∷ []) refl) utf8

pub line_first : (text line rest : List ℕ) → text ≡ line ++ 10 ∷ rest → HasNone 10 line → IsUtf8 line → first_line text ≡ Some (line, rest)
line_first text line rest whole none utf8 =
    ap (λ t. utf8_line (cut_at (10 ∷ []) t)) whole ∙ ap utf8_line (cut_first 10 line rest none)
    ∙ ap (λ is. if is then Some (line, rest) else None) (is_utf8-from_IsUtf8 line utf8)

pub columns_first : (a b c : List ℕ) → HasNone 9 a → HasNone 9 b → columns (a ++ 9 ∷ (b ++ 9 ∷ c)) ≡ Some (a, (b, c))
columns_first a b c first second =
    ap second_column (cut_first 9 a (b ++ 9 ∷ c) first) ∙ ap (option_map (λ parts. (a, parts))) (cut_first 9 b c second)

-- ---- whether a line is UTF-8, by a test

pub utf8_is : (line : List ℕ) (test : Bool) → (IsTrue test ↔ IsUtf8 line) → test ≡ is_utf8 line
utf8_is line true is = sym (is_utf8-from_IsUtf8 line (is.0 refl))
utf8_is line false is = elim (cases_Bool (is_utf8 line)) [
  | inl valid ↦ absurd (true≢false (sym (is.1 (IsUtf8-from_is_utf8 line valid))))
  | inr invalid ↦ sym invalid
]

-- ---- no other header

pub no_header :
    (text bytes rest : List ℕ) → first_line text ≡ Some (bytes, rest) → ((head : Head) → ¬ IsHeader bytes head) → IsHeadRead text None
no_header text bytes rest found none = λ head more begins.
    let same : begins.0 ≡ bytes = ap (λ p. p.0) (same_Some _ _ (sym begins.1 ∙ found)) in
    none head (subst (λ t. IsHeader t head) same begins.2)

-- times that are in the wrong order are those of no span
pub no_bounds :
    (since upto : List ℕ) (first last : ℕ) → IsTimeOf since first → IsTimeOf upto last → last < first →
    (bounds : Bounds) → ¬ AreBounds since upto bounds
no_bounds since upto first last since_is upto_is backwards bounds are =
    omega (arith, backwards, are.2, time_unique since bounds.since first are.0 since_is, time_unique upto bounds.upto last are.1 upto_is)

pub no_span :
    (since upto : List ℕ) (first last : ℕ) (made : Result Bounds SpanFault) → IsTimeOf since first → IsTimeOf upto last →
    ((made ≡ Err Backwards) ↔ (last < first)) → ((made ≡ Err OutOfYears) ↔ ((first ≤ last) × (end_second < last))) →
    (result : Option Bounds) → result ≡ result_ok made → IfNone result ((bounds : Bounds) → ¬ AreBounds since upto bounds)
no_span since upto first last (Ok span) since_is upto_is backwards late None is = absurd (cc is)
no_span since upto first last (Err Backwards) since_is upto_is backwards late None is =
    no_bounds since upto first last since_is upto_is (backwards.0 refl)
no_span since upto first last (Err OutOfYears) since_is upto_is backwards late None is =
    absurd (omega (arith, (late.0 refl).1, upto_is.0))
no_span since upto first last made since_is upto_is backwards late (Some span) is = tt

-- ---- the columns of a line

second_of :
    (time first : List ℕ) (parts : List ℕ × List ℕ) (cut : Option (List ℕ × List ℕ)) →
    option_map {U = List ℕ × (List ℕ × List ℕ)} (λ p. (time, p)) cut ≡ Some (first, parts) → (time ≡ first) × (cut ≡ Some parts)
second_of time first parts None is = absurd (cc is)
second_of time first parts (Some p) is =
    let same = same_Some _ _ is in
    (ap (λ t. t.0) same, ap (λ t. Some t.1) same)

first_of :
    (first : List ℕ) (parts : List ℕ × List ℕ) (cut : Option (List ℕ × List ℕ)) → second_column cut ≡ Some (first, parts) →
    (rest : List ℕ) × (cut ≡ Some (first, rest))
first_of first parts None is = absurd (cc is)
first_of first parts (Some (time, rest)) is =
    (rest, ap (λ t. Some (t, rest)) (second_of time first parts (cut_at (9 ∷ []) rest) is).0)

-- a line is cut at its first tab, and what follows at the next one
pub columns_cut :
    (text time job runs : List ℕ) → columns text ≡ Some (time, (job, runs)) →
    (rest : List ℕ) × (cut_at (9 ∷ []) text ≡ Some (time, rest)) × (cut_at (9 ∷ []) rest ≡ Some (job, runs))
columns_cut text time job runs is =
    let first = first_of time (job, runs) (cut_at (9 ∷ []) text) is in
    let second = second_of time time (job, runs) (cut_at (9 ∷ []) first.0) (sym (ap second_column first.1) ∙ is) in
    (first.0, first.1, second.1)

-- ---- the first line of a text

pub line_again : (text line rest : List ℕ) → first_line text ≡ Some (line, rest) → text ≡ line ++ 10 ∷ rest
line_again text line rest is = grind (arith, nat_tests, cut_again)

-- what follows the first line is at the end of the text
pub after_line :
    (text line rest : List ℕ) → first_line text ≡ Some (line, rest) →
    (length rest ≤ length text) × (drop (length text - length rest) text ≡ rest)
after_line text line rest is =
    let whole : text ≡ (line ++ 10 ∷ []) ++ rest = line_again text line rest is ∙ sym (append_assoc line (10 ∷ []) rest) in
    let sum = ap length whole ∙ length-append (line ++ 10 ∷ []) rest in
    (omega (arith, sum), ap (drop (length text - length rest)) whole ∙ drop_at (line ++ 10 ∷ []) rest (length text - length rest) (omega (arith, sum)))

pub header_read :
    (text line rest : List ℕ) (result : Option Header) → first_line text ≡ Some (line, rest) → IfSome result (λ h. IsHeader line (head_of h)) →
    IfSome result (λ h. h.start ≡ length text - length rest) → IfNone result ((head : Head) → ¬ IsHeader line head) →
    IsHeadRead text (option_map (λ h. (head_of h, drop h.start text)) result)
header_read text line rest None begins is start none = no_header text line rest begins none
header_read text line rest (Some h) begins is start none =
    let left : rest ≡ drop h.start text = sym (ap (λ k. drop k text) start ∙ (after_line text line rest begins).1) in
    (line, begins ∙ ap (λ t. Some (line, t)) left, is)
