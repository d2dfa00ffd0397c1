-- Whole lines up to the first that isn't UTF-8: a whole line with a part that isn't UTF-8 isn't UTF-8 either.
use Rattle.std.proofs.Common.{◌≡◌, ℕ, zero, suc, ◌+◌, ◌-◌, ◌<◌, ◌≤◌, ◌==◌, ◌%◌, Bool, true, false, not, cond, List, [], ◌∷◌, ◌++◌, length, take, drop, get_or, filter, map, reverse, Option, Some, None, string_bytes, refl, ap, sym, subst, ◌∙◌, append_assoc, append-nil, length-append, take_at, drop_at, drop_of_length-le, take_all, get_or-append-add, arith}
use Rattle.std.proofs.lemmas.Bool.Decides.{Decides-eqb}
use Rattle.std.proofs.lemmas.List.{take_more, get_or-reverse}
use Rattle.std.proofs.lemmas.List.Sums.{prefix_len_passes, suffix_len-le-length, take_while-cons}
use Rattle.std.proofs.lemmas.Str.{IsUtf8-append, IsUtf8-take, IsUtf8-drop, IsUtf8-from_ascii, IsUtf8-string_bytes, IsCharBoundary-before_ascii, IsCharBoundary-from_take}
use Rattle.std.specs.List.{enumerate_from, suffix_len, prefix_len}
use Rattle.std.specs.Str.{IsUtf8, is_utf8}
use Rattle.std.specs.Str.Lines.{strip_carriage_return}
use Rattle.plan_texts.specs.Text.{is_blank}
use Rattle.plan_texts.specs.Lines.{after_blanks}
use Rattle.plan_texts.specs.WholeLines.{before_bad, in_front, is_comment, is_joined, joined, line_text, whole_text, with_line, with_space}
use Rattle.plan_texts.specs.Joining.{resumed, whole_with, with_raw_line}
use Rattle.plan_texts.specs.declared.whole_lines.Joiner.{Joiner}
use Rattle.plan_texts.specs.declared.whole_lines.WholeLine.{WholeLine}
use Rattle.plan_texts.proofs.LinesLemmas.{blank_ascii}
use Rattle.plan_texts.proofs.Utf8Lemmas.{yes_utf8, no_utf8}
use Rattle.plan_texts.proofs.WholeLinesLemmas.{rest_from}

-- ---- parts of a text

one_byte : (b : ℕ) → b < 128 → (i : ℕ) → get_or (b ∷ []) i 0 < 128
one_byte b low zero = low
one_byte b low (suc i) = omega arith

ascii : (b : ℕ) → b < 128 → IsUtf8 (b ∷ [])
ascii b low = IsUtf8-from_ascii (b ∷ []) (one_byte b low)

behind : (front text : List ℕ) → IsUtf8 front → IsUtf8 (front ++ text) → IsUtf8 text
behind front text first all =
    let inside : length front ≤ length (front ++ text) = omega (arith, length-append front text) in
    let cut = subst IsUtf8 (sym (take_at front text (length front) refl)) first in
    subst IsUtf8 (drop_at front text (length front) refl)
    (IsUtf8-drop (front ++ text) (length front) all (IsCharBoundary-from_take (front ++ text) (length front) all inside cut))

before_ascii : (text more : List ℕ) (b : ℕ) → b < 128 → IsUtf8 (text ++ b ∷ more) → IsUtf8 text
before_ascii text more b low all =
    let inside : length text < length (text ++ b ∷ more) = omega (arith, length-append text (b ∷ more)) in
    let at : length text + 0 ≡ length text = omega arith in
    let here : get_or (text ++ b ∷ more) (length text) 0 ≡ b = ap (λ n. get_or (text ++ b ∷ more) n 0) (sym at)
    ∙ get_or-append-add text (b ∷ more) 0 0 in
    let small : get_or (text ++ b ∷ more) (length text) 0 < 128 = subst (λ n. n < 128) (sym here) low in
    subst IsUtf8 (take_at text (b ∷ more) (length text) refl)
    (IsUtf8-take (text ++ b ∷ more) (length text) all (IsCharBoundary-before_ascii (text ++ b ∷ more) (length text) inside small))

-- a text, and its last byte
with_last : (text : List ℕ) → 0 < length text → take (length text - 1) text ++ get_or text (length text - 1) 0 ∷ [] ≡ text
with_last text some =
    let inside : length text - 1 < length text = omega arith in
    let next : (length text - 1) + 1 ≡ length text = omega arith in
    sym (take_more text (length text - 1) 0 inside) ∙ ap (λ n. take n text) next ∙ take_all (length text) text (omega arith)

with_ascii : (text : List ℕ) (b : ℕ) → b < 128 → 0 < length text → get_or text (length text - 1) 0 ≡ b → IsUtf8 (take (length text - 1) text) → IsUtf8 text
with_ascii text b low some last front =
    subst IsUtf8 (ap (λ x. take (length text - 1) text ++ x ∷ []) (sym last) ∙ with_last text some)
    (IsUtf8-append (take (length text - 1) text) (b ∷ []) front (ascii b low))

-- ---- one line

blanks_by :
    (is : Bool) (b : ℕ) (bs : List ℕ) → is_blank b ≡ is → (IsUtf8 (after_blanks bs) → IsUtf8 bs) →
    IsUtf8 (drop (cond is (1 + prefix_len is_blank bs) 0) (b ∷ bs)) → IsUtf8 (b ∷ bs)
blanks_by true b bs is more text =
    let next : 1 + prefix_len is_blank bs ≡ suc (prefix_len is_blank bs) = omega arith in
    IsUtf8-append (b ∷ []) bs (ascii b (blank_ascii b is)) (more (subst (λ n. IsUtf8 (drop n (b ∷ bs))) next text))
blanks_by false b bs is more text = text

with_blanks : (text : List ℕ) → IsUtf8 (after_blanks text) → IsUtf8 text
with_blanks [] text = text
with_blanks (b ∷ bs) text = blanks_by (is_blank b) b bs refl (with_blanks bs) text

some_of_last : (text : List ℕ) (b : ℕ) → 0 < b → get_or text (length text - 1) 0 ≡ b → 0 < length text
some_of_last [] b some is = absurd (omega arith)
some_of_last (x ∷ xs) b some is = omega arith

return_by :
    (is : Bool) (line : List ℕ) → (get_or line (length line - 1) 0 == 13) ≡ is →
    IsUtf8 (cond is (take (length line - 1) line) line) → IsUtf8 line
return_by true line is text =
    let last : get_or line (length line - 1) 0 ≡ 13 = (Decides-eqb (get_or line (length line - 1) 0) 13).0 is in
    with_ascii line 13 (omega arith) (some_of_last line 13 (omega arith) last) last text
return_by false line is text = text

-- a line whose text is UTF-8 is UTF-8
whole_line : (line : List ℕ) → IsUtf8 (line_text line) → IsUtf8 line
whole_line line text =
    return_by (get_or line (length line - 1) 0 == 13) line refl (with_blanks (strip_carriage_return line) text)

-- ---- a whole line

-- a text that continues ends with a backslash
last_backslash : (text : List ℕ) → is_joined text ≡ true → get_or text (length text - 1) 0 ≡ 92
last_backslash text is =
    let n = suffix_len (λ b. b == 92) text in
    let odd : n % 2 ≡ 1 = (Decides-eqb (n % 2) 1).0 is in
    let some : 0 < n = omega arith in
    let all : n ≤ length text = suffix_len-le-length (λ b. b == 92) text in
    let inside : 0 < length text = omega arith in
    let place : length text - 1 - 0 ≡ length text - 1 = omega arith in
    let last = get_or-reverse text 0 0 inside ∙ ap (λ k. get_or text k 0) place in
    sym last ∙ (Decides-eqb (get_or (reverse text) 0 0) 92).0 (prefix_len_passes (λ b. b == 92) (reverse text) 0 0 some)

with_backslash : (text more : List ℕ) → is_joined text ≡ true → IsUtf8 (with_space text ++ more) → IsUtf8 text
with_backslash text more is all =
    let last = last_backslash text is in
    with_ascii text 92 (omega arith) (some_of_last text 92 (omega arith) last) last
    (before_ascii (take (length text - 1) text) more 32 (omega arith)
    (subst IsUtf8 (append_assoc (take (length text - 1) text) (32 ∷ []) more) all))

-- the first whole line isn't UTF-8
abbrev IsBad : List (ℕ × List ℕ) → Type 0
IsBad [] = ⊥
IsBad (line ∷ more) = IsUtf8 line.1 → ⊥

bad_front : (number : ℕ) (text : List ℕ) (rest : List (ℕ × List ℕ)) → is_joined text ≡ true → (IsUtf8 text → ⊥) → IsBad (in_front number (with_space text) rest)
bad_front number text [] is bad = λ all. bad (with_backslash text [] is (subst IsUtf8 (sym (append-nil (with_space text))) all))
bad_front number text (next ∷ more) is bad = λ all. bad (with_backslash text next.1 is all)

bad_by :
    (is : Bool) (number : ℕ) (text : List ℕ) (rest : List (ℕ × List ℕ)) → is_joined text ≡ is → (IsUtf8 text → ⊥) →
    IsBad (cond is (in_front number (with_space text) rest) ((number, text) ∷ rest))
bad_by true number text rest is bad = bad_front number text rest is bad
bad_by false number text rest is bad = bad

bad_resumed : (held : Option WholeLine) (lines : List (ℕ × List ℕ)) → IsBad lines → IsBad (resumed held lines)
bad_resumed None lines bad = bad
bad_resumed (Some line) [] bad = absurd bad
bad_resumed (Some line) (next ∷ more) bad = λ all. bad (behind (string_bytes line.text) next.1 (IsUtf8-string_bytes line.text) all)

-- ---- all lines

none_of_bad : (lines : List (ℕ × List ℕ)) → IsBad lines → before_bad lines ≡ []
none_of_bad [] bad = absurd bad
none_of_bad (line ∷ more) bad =
    take_while-cons (λ line. is_utf8 line.1) line more ∙ ap (λ b. cond b (line ∷ before_bad more) []) (no_utf8 line.1 bad)

kept : (whole : List WholeLine) (more : List (ℕ × List ℕ)) → before_bad (map whole_text whole ++ more) ≡ map whole_text whole ++ before_bad more
kept [] more = refl
kept (line ∷ lines) more =
    take_while-cons (λ line. is_utf8 line.1) (whole_text line) (map whole_text lines ++ more)
    ∙ ap (λ b. cond b (whole_text line ∷ before_bad (map whole_text lines ++ more)) [])
    (yes_utf8 (string_bytes line.text) (IsUtf8-string_bytes line.text))
    ∙ ap (λ found. whole_text line ∷ found) (kept lines more)

-- whole lines of strings are all read
all_kept : (whole : List WholeLine) → before_bad (map whole_text whole) ≡ map whole_text whole
all_kept whole =
    ap before_bad (sym (append-nil (map whole_text whole))) ∙ kept whole [] ∙ append-nil (map whole_text whole)

-- after the last line
pub ended :
    (joiner : Joiner) (place : ℕ) (lines : List (List ℕ)) (all : List (ℕ × List ℕ)) (whole : List WholeLine) → length lines ≤ place →
    whole_with joiner (rest_from place lines) ≡ all → map whole_text whole ≡ whole_with joiner [] → map whole_text whole ≡ before_bad all
ended joiner place lines all whole past same is =
    let none : rest_from place lines ≡ [] =
    ap (λ rest. joined (filter (λ line. not (is_comment line.1)) (enumerate_from (place + 1) (map line_text rest)))) (drop_of_length-le lines past) in
    sym (all_kept whole) ∙ ap before_bad (is ∙ ap (whole_with joiner) (sym none) ∙ same)

-- a line that is neither UTF-8 nor a comment ends the whole lines
pub stopped :
    (joiner : Joiner) (number : ℕ) (line : List ℕ) (rest : List (ℕ × List ℕ)) → (IsUtf8 line → ⊥) → is_comment (line_text line) ≡ false →
    before_bad (whole_with joiner (with_raw_line number line rest)) ≡ map whole_text joiner.whole.items
stopped joiner number line rest bad none =
    let text = line_text line in
    let lines = with_line (number, text) rest in
    ap (λ b. before_bad (whole_with joiner (cond b rest lines))) none
    ∙ kept joiner.whole.items (resumed joiner.«open» lines)
    ∙ ap (λ found. map whole_text joiner.whole.items ++ found)
    (none_of_bad (resumed joiner.«open» lines)
    (bad_resumed joiner.«open» lines (bad_by (is_joined text) number text rest refl (λ all. bad (whole_line line all)))))
    ∙ append-nil (map whole_text joiner.whole.items)
