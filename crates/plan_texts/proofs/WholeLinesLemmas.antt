-- Whole lines: where a text may be cut before its trailing blanks, and how lines are merged one by one.
-- For `trimmed`, and for the loop of `joined`. Its invariant adds the lines from a place on (`rest_from`) to the lines
-- so far. The reversed text gives the blanks at the end.
use Rattle.std.proofs.Common.{◌≡◌, ℕ, ◌+◌, ◌-◌, ◌<◌, ◌≤◌, Bool, true, false, not, cond, List, [], ◌∷◌, ◌++◌, length, take, drop, get_or, filter, map, reverse, Option, Some, None, unwrap_or, string_bytes, refl, ap, sym, ◌∙◌, append_assoc, arith, inl, inr}
use Rattle.std.proofs.lemmas.Bool.Decides.{nat_tests}
use Rattle.std.proofs.lemmas.Bool.{cases_lt}
use Rattle.std.proofs.lemmas.List.{drop_more, drop-map, get_or-reverse}
use Rattle.std.proofs.lemmas.List.Sums.{prefix_len_passes, suffix_len-le-length}
use Rattle.std.proofs.lemmas.Option.{same_Some, none-some}
use Rattle.std.proofs.lemmas.Str.{IsCharBoundary-end, IsCharBoundary-before_ascii}
use Rattle.std.specs.List.{suffix_len, enumerate_from}
use Rattle.std.specs.Str.{IsUtf8, IsCharBoundary}
use Rattle.plan_texts.specs.Text.{is_blank}
use Rattle.plan_texts.specs.WholeLines.{line_text, is_comment, is_joined, in_front, with_line, joined}
use Rattle.plan_texts.specs.Joining.{resumed, with_raw_line}
use Rattle.plan_texts.specs.declared.whole_lines.WholeLine.{WholeLine}
use Rattle.plan_texts.proofs.LinesLemmas.{blank_ascii}

-- the first of the elements at the end that pass the test
suffix_first : (p : ℕ → Bool) (text : List ℕ) → 0 < suffix_len p text → p (get_or text (length text - suffix_len p text) 0) ≡ true
suffix_first p text some =
    let n = suffix_len p text in
    let whole : n ≤ length text = suffix_len-le-length p text in
    let last : n - 1 < n = omega arith in
    let inside : n - 1 < length text = omega arith in
    let place : length text - 1 - (n - 1) ≡ length text - n = omega arith in
    sym (ap p (get_or-reverse text (n - 1) 0 inside ∙ ap (λ k. get_or text k 0) place)) ∙ prefix_len_passes p (reverse text) (n - 1) 0 last

-- a text may be cut before its trailing blanks
pub boundary_before_blanks : (text : List ℕ) → IsUtf8 text → IsCharBoundary text (length text - suffix_len is_blank text)
boundary_before_blanks text utf8 =
    let n = suffix_len is_blank text in
    let whole : n ≤ length text = suffix_len-le-length is_blank text in
    elim (cases_lt 0 n) as (λ _. IsCharBoundary text (length text - suffix_len is_blank text)) [
      | inl some ↦
          let inside : length text - n < length text = omega arith in
          IsCharBoundary-before_ascii text (length text - n) inside (blank_ascii _ (suffix_first is_blank text some))
      | inr none ↦
          let all : length text - suffix_len is_blank text ≡ length text = omega arith in
          rw all (IsCharBoundary-end text)
    ]

-- ---- lines, one by one

-- the whole lines of the lines from a place on
abbrev pub rest_from : ℕ → List (List ℕ) → List (ℕ × List ℕ)
rest_from place lines =
    joined (filter (λ line. not (is_comment line.1)) (enumerate_from (place + 1) (map line_text (drop place lines))))

comment_or_line :
    (comment : Bool) (line : ℕ × List ℕ) (more : List (ℕ × List ℕ)) →
    joined (cond (not comment) (line ∷ more) more) ≡ cond comment (joined more) (with_line line (joined more))
comment_or_line comment line more = grind (arith, nat_tests)

-- one more line
pub rest_more :
    {A : Type 0} (v : A → List ℕ) (lines : List A) (place : ℕ) (d : A) → place < length lines →
    rest_from place (map v lines) ≡ with_raw_line (place + 1) (v (get_or lines place d)) (rest_from (place + 1) (map v lines))
rest_more v lines place d inside = grind (arith, nat_tests, drop-map, drop_more, comment_or_line)

front_is : (b : Bool) (text front : List ℕ) → Some front ≡ cond b (Some text) None → (b ≡ true) × (front ≡ text)
front_is true text front is = (refl, same_Some _ _ is)
front_is false text front is = absurd (none-some _ (sym is))

-- the line that is to be continued, or else a new one without a text, with a text behind it
held_more :
    (held : Option WholeLine) (new : WholeLine) (text : List ℕ) (rest : List (ℕ × List ℕ)) → string_bytes new.text ≡ [] →
    in_front (unwrap_or held new).number (string_bytes (unwrap_or held new).text ++ text) rest
    ≡ resumed held (in_front new.number text rest)
held_more None new text rest empty = ap (λ front. in_front new.number (front ++ text) rest) empty
held_more (Some line) new text [] empty = refl
held_more (Some line) new text (next ∷ more) empty = grind (arith, nat_tests, append_assoc)

-- a text that is continued goes behind that line
pub continued :
    (held : Option WholeLine) (new whole : WholeLine) (text front bytes : List ℕ) (rest : List (ℕ × List ℕ)) →
    string_bytes new.text ≡ [] → whole ≡ unwrap_or held new →
    Some front ≡ cond (is_joined text) (Some (take (length text - 1) text)) None →
    bytes ≡ (string_bytes whole.text ++ front) ++ 32 ∷ [] →
    in_front whole.number bytes rest ≡ resumed held (with_line (new.number, text) rest)
continued held new whole text front bytes rest empty is cut all = grind (arith, nat_tests, front_is, append_assoc, held_more)
