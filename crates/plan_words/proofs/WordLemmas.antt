-- The words of a sentence are read back from its bytes.
use Rattle.std.proofs.Common.{◌≡◌, ℕ, zero, suc, ◌+◌, ◌-◌, ◌*◌, ◌/◌, ◌%◌, ◌<◌, ◌≤◌, Bool, true, false, ◌||◌, ◌==◌, if◌then◌else◌, nat_lt, List, [], ◌∷◌, ◌++◌, map, refl, ap, sym, subst, ◌∙◌, append_assoc, append-nil, arith, ◌^◌}
use Rattle.std.specs.Prelude.{codes}
use Rattle.std.specs.Fmt.{decimal}
use Rattle.std.specs.Str.{byte}
use Rattle.std.proofs.lemmas.Bool.Decides.{nat_tests}
use Rattle.std.proofs.lemmas.Fmt.{decimal_by_steps}
use Rattle.plan_words.specs.declared.names.TimeUnit.{TimeUnit}
use Rattle.plan_words.specs.declared.names.TimeUnit.TheVariants.{Second}
use Rattle.plan_words.specs.declared.names.Weekday.{Weekday}
use Rattle.plan_words.specs.declared.names.Weekday.TheVariants as day
use Rattle.plan_words.specs.declared.names.Month.{Month}
use Rattle.plan_words.specs.declared.names.Month.TheVariants as month
use Rattle.plan_words.specs.Words.{Keyword, At, Comma, Word, Key, Number, Ordinal, Clock, ClockSeconds, ADayOfWeek, DaysOfWeek, NameOfMonth, OneUnit, ManyUnits, numeral, numeral_by, two_digits, ending, keyword_text, unit_text, units_text, weekday_text, weekdays_text, month_text, word_text, spelling, spelled, text_of_words, is_keyword}
use Rattle.plan_words.specs.Pieces.{ABlank, NoMark, mark, with_byte, pieces, notes_cut, is_digit, number_from, clock_after, word_after, word_of, words_in}

-- ---- numbers

-- one digit more
numeral_more : (k n : ℕ) → nat_lt n 10 ≡ false → numeral_by (suc k) n ≡ numeral_by k (n / 10) ++ (48 + n % 10) ∷ []
unfolding numeral_by
numeral_more k n is = rw (is, numeral_by) refl

numeral_one : (k n : ℕ) → nat_lt n 10 ≡ true → numeral_by (suc k) n ≡ (48 + n) ∷ []
unfolding numeral_by
numeral_one k n is = rw (is, numeral_by) refl

-- what holds of one digit, and of one digit more, holds of each numeral
pub numeral_induct :
    (P : ℕ → List ℕ → Type 0) → ((n : ℕ) → n < 10 → P n ((48 + n) ∷ [])) →
    ((n : ℕ) (ds : List ℕ) → 10 ≤ n → P (n / 10) ds → P n (ds ++ (48 + n % 10) ∷ [])) → (k n : ℕ) → n < k → P n (numeral_by k n)
numeral_induct P one more zero n fits = absurd (omega arith)
numeral_induct P one more (suc k) n fits = go (nat_lt n 10) refl (λ large. numeral_induct P one more k (n / 10) (omega arith))
  where
    go : (b : Bool) → nat_lt n 10 ≡ b → (10 ≤ n → P (n / 10) (numeral_by k (n / 10))) → P n (numeral_by (suc k) n)
    go true is before =
        let small : n < 10 = grind (arith, nat_tests) in
        subst (P n) (sym (numeral_one k n is)) (one n small)
    go false is before =
        let large : 10 ≤ n = grind (arith, nat_tests) in
        subst (P n) (sym (numeral_more k n is)) (more n (numeral_by k (n / 10)) large (before large))

digit_test : (d : ℕ) → d < 10 → is_digit (48 + d) ≡ true
digit_test d small = grind (arith, nat_tests)

-- what follows a number doesn't begin with a digit
abbrev NoDigit : List ℕ → Type 0
NoDigit rest = (n : ℕ) → number_from n rest ≡ (n, rest)

one_digit : (n d : ℕ) (rest : List ℕ) → d < 10 → number_from n ((48 + d) ∷ rest) ≡ number_from (n * 10 + d) rest
one_digit n d rest small =
    let same : 48 + d - 48 ≡ d = omega arith in
    rw (digit_test d small, number_from) (ap (λ m. number_from (n * 10 + m) rest) same)

numeral_read : (n : ℕ) (rest : List ℕ) → number_from 0 (numeral n ++ rest) ≡ number_from n rest
numeral_read n rest =
    numeral_induct (λ m ds. (more : List ℕ) → number_from 0 (ds ++ more) ≡ number_from m more)
    (λ m small more.
    let same : 0 * 10 + m ≡ m = omega arith in
    one_digit 0 m more small ∙ ap (λ k. number_from k more) same)
    (λ m ds large before more.
    let whole : m / 10 * 10 + m % 10 ≡ m = omega arith in
    let small : m % 10 < 10 = omega arith in
    rw append_assoc
    (before ((48 + m % 10) ∷ more) ∙ one_digit (m / 10) (m % 10) more small ∙ ap (λ k. number_from k more) whole))
    (suc n) n (omega arith) rest

two_read : (n : ℕ) (rest : List ℕ) → number_from 0 (two_digits n ++ rest) ≡ number_from n rest
two_read n rest = go (nat_lt n 10)
  where
    go : (b : Bool) → number_from 0 (((if b then codes "0" else []) ++ numeral n) ++ rest) ≡ number_from n rest
    go true = numeral_read n rest
    go false = numeral_read n rest

-- ---- marks

-- a text with no bracket comes before the notes whole
abbrev pub HasNoBracket : List ℕ → Type 0
HasNoBracket text = (rest : List ℕ) → notes_cut (text ++ rest) ≡ (text ++ (notes_cut rest).0, (notes_cut rest).1)

-- no byte of a text is a mark or a bracket
abbrev Passes : List ℕ → Type 0
Passes text = ((rest : List ℕ) → pieces (text ++ rest) ≡ (text ++ (pieces rest).0, (pieces rest).1)) × HasNoBracket text

pieces_both :
    (a b : List ℕ) → ((rest : List ℕ) → pieces (a ++ rest) ≡ (a ++ (pieces rest).0, (pieces rest).1)) →
    ((rest : List ℕ) → pieces (b ++ rest) ≡ (b ++ (pieces rest).0, (pieces rest).1)) →
    (rest : List ℕ) → pieces ((a ++ b) ++ rest) ≡ ((a ++ b) ++ (pieces rest).0, (pieces rest).1)
pieces_both a b first second rest =
    rw append_assoc
    (first (b ++ rest) ∙ ap (λ cut. (a ++ cut.0, cut.1)) (second rest)
    ∙ ap (λ x. (x, (pieces rest).1)) (sym (append_assoc a b (pieces rest).0)))

no_bracket_both : (a b : List ℕ) → HasNoBracket a → HasNoBracket b → HasNoBracket (a ++ b)
no_bracket_both a b first second rest =
    rw append_assoc
    (first (b ++ rest) ∙ ap (λ cut. (a ++ cut.0, cut.1)) (second rest)
    ∙ ap (λ x. (x, (notes_cut rest).1)) (sym (append_assoc a b (notes_cut rest).0)))

passes_both : (a b : List ℕ) → Passes a → Passes b → Passes (a ++ b)
passes_both a b first second = (pieces_both a b first.0 second.0, no_bracket_both a b first.1 second.1)

digit_mark : (d : ℕ) → d < 10 → mark (48 + d) ≡ NoMark
digit_mark d small =
    let no_blank : (48 + d == 32) ≡ false = grind (arith, nat_tests) in
    let no_comma : (48 + d == 44) ≡ false = grind (arith, nat_tests) in
    rw (no_blank, no_comma, mark) refl

digit_passes : (d : ℕ) → d < 10 → Passes ((48 + d) ∷ [])
digit_passes d small =
    let no_bracket : (48 + d == byte "(") ≡ false = grind (arith, nat_tests) in
    (λ rest. ap (λ m. with_byte (48 + d) m (pieces rest)) (digit_mark d small), λ rest. rw (no_bracket, notes_cut) refl)

numeral_passes : (n : ℕ) → Passes (numeral n)
numeral_passes n =
    numeral_induct (λ m ds. Passes ds) (λ m small. digit_passes m small)
    (λ m ds large before. passes_both ds ((48 + m % 10) ∷ []) before (digit_passes (m % 10) (omega arith))) (suc n) n (omega arith)

two_passes : (n : ℕ) → Passes (two_digits n)
two_passes n = go (nat_lt n 10)
  where
    go : (b : Bool) → Passes ((if b then codes "0" else []) ++ numeral n)
    go true = passes_both (codes "0") (numeral n) (λ rest. refl, λ rest. refl) (numeral_passes n)
    go false = numeral_passes n

-- what holds of the four endings holds of each
ending_cases : (P : List ℕ → Type 0) → P (codes "st") → P (codes "nd") → P (codes "rd") → P (codes "th") → (n : ℕ) → P (ending n)
ending_cases P st nd rd th n =
    go ((n % 100 == 11) || ((n % 100 == 12) || (n % 100 == 13))) (n % 10 == 1) (n % 10 == 2) (n % 10 == 3)
  where
    go :
        (a b c d : Bool) →
        P (if a then codes "th" else (if b then codes "st" else (if c then codes "nd" else (if d then codes "rd" else codes "th"))))
    go true b c d = th
    go false true c d = st
    go false false true d = nd
    go false false false true = rd
    go false false false false = th

keyword_passes : (k : Keyword) → is_keyword Comma (Key k) ≡ false → Passes (keyword_text k)
keyword_passes At is = (λ rest. refl, λ rest. refl)
keyword_passes Comma is = absurd (cc)
keyword_passes _ is = (λ rest. refl, λ rest. refl)

weekday_passes : (w : Weekday) → Passes (weekday_text w)
weekday_passes day.Monday = (λ rest. refl, λ rest. refl)
weekday_passes _ = (λ rest. refl, λ rest. refl)

weekdays_passes : (w : Weekday) → Passes (weekdays_text w)
weekdays_passes day.Monday = (λ rest. refl, λ rest. refl)
weekdays_passes _ = (λ rest. refl, λ rest. refl)

month_passes : (m : Month) → Passes (month_text m)
month_passes month.January = (λ rest. refl, λ rest. refl)
month_passes _ = (λ rest. refl, λ rest. refl)

unit_passes : (u : TimeUnit) → Passes (unit_text u)
unit_passes Second = (λ rest. refl, λ rest. refl)
unit_passes _ = (λ rest. refl, λ rest. refl)

units_passes : (u : TimeUnit) → Passes (units_text u)
units_passes Second = (λ rest. refl, λ rest. refl)
units_passes _ = (λ rest. refl, λ rest. refl)

-- a word but a comma passes
word_passes : (w : Word) → is_keyword Comma w ≡ false → Passes (word_text w)
word_passes (Key k) is = keyword_passes k is
word_passes (Number n) is = numeral_passes n
word_passes (Ordinal n) is =
    passes_both (numeral n) (ending n) (numeral_passes n)
    (ending_cases Passes (λ r. refl, λ r. refl) (λ r. refl, λ r. refl) (λ r. refl, λ r. refl) (λ r. refl, λ r. refl) n)
word_passes (Clock h m) is =
    passes_both (two_digits h) (codes ":" ++ two_digits m) (two_passes h)
    (passes_both (codes ":") (two_digits m) (λ r. refl, λ r. refl) (two_passes m))
word_passes (ClockSeconds h m s) is =
    passes_both (two_digits h) (codes ":" ++ (two_digits m ++ (codes ":" ++ two_digits s))) (two_passes h)
    (passes_both (codes ":") (two_digits m ++ (codes ":" ++ two_digits s)) (λ r. refl, λ r. refl)
    (passes_both (two_digits m) (codes ":" ++ two_digits s) (two_passes m)
    (passes_both (codes ":") (two_digits s) (λ r. refl, λ r. refl) (two_passes s))))
word_passes (ADayOfWeek w) is = weekday_passes w
word_passes (DaysOfWeek w) is = weekdays_passes w
word_passes (NameOfMonth m) is = month_passes m
word_passes (OneUnit u) is = unit_passes u
word_passes (ManyUnits u) is = units_passes u

-- ---- a word is cut off

-- the pieces of a word's spelling: the word, before those that follow
abbrev IsCut : Word → Type 0
IsCut w = (ws : List (List ℕ)) (rest : List ℕ) → pieces rest ≡ ([], ws) → pieces (spelling w ++ rest) ≡ ([], word_text w ∷ ws)

cut_by :
    (text : List ℕ) (ws : List (List ℕ)) (rest : List ℕ) → Passes text → pieces rest ≡ ([], ws) →
    pieces ((codes " " ++ text) ++ rest) ≡ ([], text ∷ ws)
cut_by text ws rest passes is =
    ap (with_byte 32 ABlank) (passes.0 rest ∙ ap (λ cut. (text ++ cut.0, cut.1)) is ∙ ap (λ x. (x, ws)) (append-nil text))

cut_off : (w : Word) → IsCut w
cut_off (Key Comma) ws rest is = ap (λ cut. ([], (44 ∷ cut.0) ∷ cut.1)) is
cut_off (Key At) ws rest is = cut_by (codes "at") ws rest (word_passes (Key At) refl) is
cut_off (Key k) ws rest is = cut_by (keyword_text k) ws rest (word_passes (Key k) refl) is
cut_off (Number n) ws rest is = cut_by (word_text (Number n)) ws rest (word_passes (Number n) refl) is
cut_off w ws rest is = cut_by (word_text w) ws rest (word_passes w refl) is

pub cut_all : (words : List Word) → pieces (spelled words) ≡ ([], map word_text words)
cut_all [] = refl
cut_all (w ∷ words) = cut_off w (map word_text words) (spelled words) (cut_all words)

-- ---- no word has a bracket

spelling_no_bracket : (w : Word) → HasNoBracket (spelling w)
spelling_no_bracket (Key Comma) = λ rest. refl
spelling_no_bracket (Key At) = λ rest. refl
spelling_no_bracket (Key k) = no_bracket_both (codes " ") (keyword_text k) (λ rest. refl) (word_passes (Key k) refl).1
spelling_no_bracket (Number n) = no_bracket_both (codes " ") (numeral n) (λ rest. refl) (numeral_passes n).1
spelling_no_bracket w = no_bracket_both (codes " ") (word_text w) (λ rest. refl) (word_passes w refl).1

spelled_no_bracket : (words : List Word) → HasNoBracket (spelled words)
spelled_no_bracket [] = λ rest. refl
spelled_no_bracket (w ∷ words) = no_bracket_both (spelling w) (spelled words) (spelling_no_bracket w) (spelled_no_bracket words)

pub words_no_bracket : (w : Word) (words : List Word) → is_keyword Comma w ≡ false → HasNoBracket (text_of_words (w ∷ words))
words_no_bracket w words is = no_bracket_both (word_text w) (spelled words) (word_passes w is).1 (spelled_no_bracket words)

-- ---- a word is known by its text

ordinal_known : (n : ℕ) (whole : List ℕ) → word_after n (ending n) whole ≡ Ordinal n
ordinal_known n whole = ending_cases (λ e. word_after n e whole ≡ Ordinal n) refl refl refl refl n

keyword_known : (k : Keyword) → word_of (keyword_text k) ≡ Key k
keyword_known At = refl
keyword_known _ = refl

weekday_known : (w : Weekday) → word_of (weekday_text w) ≡ ADayOfWeek w
weekday_known day.Monday = refl
weekday_known _ = refl

weekdays_known : (w : Weekday) → word_of (weekdays_text w) ≡ DaysOfWeek w
weekdays_known day.Monday = refl
weekdays_known _ = refl

month_known : (m : Month) → word_of (month_text m) ≡ NameOfMonth m
month_known month.January = refl
month_known _ = refl

unit_known : (u : TimeUnit) → word_of (unit_text u) ≡ OneUnit u
unit_known Second = refl
unit_known _ = refl

units_known : (u : TimeUnit) → word_of (units_text u) ≡ ManyUnits u
units_known Second = refl
units_known _ = refl

ending_no_digit : (n : ℕ) → NoDigit (ending n)
ending_no_digit n = ending_cases NoDigit (λ m. refl) (λ m. refl) (λ m. refl) (λ m. refl) n

whole_numeral : (n : ℕ) → number_from 0 (numeral n) ≡ (n, [])
whole_numeral n = ap (number_from 0) (sym (append-nil (numeral n))) ∙ numeral_read n []

whole_two : (n : ℕ) → number_from 0 (two_digits n) ≡ (n, [])
whole_two n = ap (number_from 0) (sym (append-nil (two_digits n))) ∙ two_read n []

pub word_known : (w : Word) → word_of (word_text w) ≡ w
word_known (Key k) = keyword_known k
word_known (Number n) = ap (λ cut. word_after cut.0 cut.1 (numeral n)) (whole_numeral n)
word_known (Ordinal n) =
    ap (λ cut. word_after cut.0 cut.1 (word_text (Ordinal n))) (numeral_read n (ending n) ∙ ending_no_digit n n)
    ∙ ordinal_known n (word_text (Ordinal n))
word_known (Clock h m) =
    ap (λ cut. word_after cut.0 cut.1 (word_text (Clock h m))) (two_read h (codes ":" ++ two_digits m))
    ∙ ap (clock_after h) (whole_two m)
word_known (ClockSeconds h m s) =
    ap (λ cut. word_after cut.0 cut.1 (word_text (ClockSeconds h m s))) (two_read h (codes ":" ++ (two_digits m ++ (codes ":" ++ two_digits s))))
    ∙ ap (clock_after h) (two_read m (codes ":" ++ two_digits s))
    ∙ ap (λ cut. ClockSeconds h m cut.0) (whole_two s)
word_known (ADayOfWeek w) = weekday_known w
word_known (DaysOfWeek w) = weekdays_known w
word_known (NameOfMonth m) = month_known m
word_known (OneUnit u) = unit_known u
word_known (ManyUnits u) = units_known u

all_known : (words : List Word) → map word_of (map word_text words) ≡ words
all_known [] = refl
all_known (w ∷ words) = ap (λ x. x ∷ map word_of (map word_text words)) (word_known w) ∙ ap (λ ws. w ∷ ws) (all_known words)

-- words are read back from their text, if no comma is the first
pub words_again : (w : Word) (words : List Word) → is_keyword Comma w ≡ false → words_in (text_of_words (w ∷ words)) ≡ w ∷ words
words_again w words is =
    ap (λ text. map word_of (pieces text).1) (blank (is_keyword Comma w) is)
    ∙ ap (λ cut. map word_of cut.1) (cut_all (w ∷ words))
    ∙ all_known (w ∷ words)
  where
    blank : (b : Bool) → b ≡ false → 32 ∷ (word_text w ++ spelled words) ≡ ((if b then [] else codes " ") ++ word_text w) ++ spelled words
    blank true e = absurd (cc)
    blank false e = refl

-- ---- the digits are those of std's decimal

numeral_enough : (k j n : ℕ) → n < k → n < j → numeral_by k n ≡ numeral_by j n
numeral_enough zero j n fits_k fits_j = absurd (omega arith)
numeral_enough (suc k) zero n fits_k fits_j = absurd (omega arith)
numeral_enough (suc k) (suc j) n fits_k fits_j = go (nat_lt n 10) refl (λ large. numeral_enough k j (n / 10) (omega arith) (omega arith))
  where
    go : (b : Bool) → nat_lt n 10 ≡ b → (10 ≤ n → numeral_by k (n / 10) ≡ numeral_by j (n / 10)) → numeral_by (suc k) n ≡ numeral_by (suc j) n
    go true is before = numeral_one k n is ∙ sym (numeral_one j n is)
    go false is before =
        let large : 10 ≤ n = grind (arith, nat_tests) in
        numeral_more k n is ∙ ap (λ ds. ds ++ (48 + n % 10) ∷ []) (before large) ∙ sym (numeral_more j n is)

pub numeral_is_decimal : (n : ℕ) → n < 2 ^ 64 → decimal n ≡ numeral n
numeral_is_decimal n fits =
    decimal_by_steps (λ m ds. ds ≡ numeral m)
    (λ m small. let test : nat_lt m 10 ≡ true = grind (arith, nat_tests) in sym (numeral_one m m test))
    (λ m ds large before.
    let test : nat_lt m 10 ≡ false = grind (arith, nat_tests) in
    ap (λ x. x ++ (48 + m % 10) ∷ []) (before ∙ numeral_enough (suc (m / 10)) m (m / 10) (omega arith) (omega arith))
    ∙ sym (numeral_more m m test))
    n fits
