-- The lines of texts that are merged, and how many lines a text has.
use Rattle.std.proofs.Common.{◌≡◌, ℕ, suc, ◌+◌, ◌-◌, Bool, true, false, cond, ◌==◌, List, [], ◌∷◌, ◌++◌, length, codes, refl, ap, sym, ◌∙◌, append_assoc, arith}
use Rattle.std.proofs.lemmas.Bool.Decides.{nat_tests}
use Rattle.std.proofs.lemmas.List.{append-nil}
use Rattle.std.proofs.lemmas.List.Elements.{All-nil, All-cons, All-head, All-tail}
use Rattle.std.proofs.lemmas.List.Splits.{slice_split_at}
use Rattle.std.proofs.lemmas.List.Sums.{sum_by-append}
use Rattle.std.specs.List.{All, count_by, slice_get, slice_split}
use Rattle.std.specs.Option.{option_map_or}
use Rattle.plan_texts.specs.Lines.{HasNoNewline, lines, with_newline, without_empty_end, written}
use Rattle.plan_texts.proofs.LinesLemmas.{IsPiece, none_in_lines, piece_of_split, written-lines}
use Rattle.plan_parts.specs.Merging.{added, between, ends_line, merged}

-- ---- a text and what follows it

none_of : (line : List ℕ) → HasNoNewline line → All (λ b. (b == 10) ≡ false) line
none_of [] none = All-nil (λ b. (b == 10) ≡ false)
none_of (b ∷ more) none =
    let here : (b == 10) ≡ false = grind (arith, nat_tests) in
    let there : HasNoNewline more = grind (arith, nat_tests) in
    All-cons (λ b. (b == 10) ≡ false) b more here (none_of more there)

end_after : (line : List ℕ) (pieces : List (List ℕ)) → IsPiece pieces → without_empty_end (line ∷ pieces) ≡ line ∷ without_empty_end pieces
end_after line [] none = absurd none
end_after line (piece ∷ more) some = refl

-- a line with its newline, and then a text
pub lines_line : (line rest : List ℕ) → HasNoNewline line → lines (line ++ 10 ∷ rest) ≡ line ∷ lines rest
unfolding lines
lines_line line rest none =
    ap without_empty_end (slice_split_at (λ b. b == 10) line 10 rest (none_of line none) refl)
    ∙ end_after line (slice_split (λ b. b == 10) rest) (piece_of_split (λ b. b == 10) rest)

lines_written : (ls : List (List ℕ)) (rest : List ℕ) → All HasNoNewline ls → lines (written ls ++ rest) ≡ ls ++ lines rest
lines_written [] rest none = refl
lines_written (line ∷ more) rest none =
    ap lines (append_assoc line (10 ∷ written more) rest)
    ∙ lines_line line (written more ++ rest) (All-head HasNoNewline line more none)
    ∙ ap (λ ls. line ∷ ls) (lines_written more rest (All-tail HasNoNewline line more none))

-- a text with a newline at its end, and then another text
pub lines_before : (text rest : List ℕ) → lines (with_newline text ++ rest) ≡ lines text ++ lines rest
lines_before text rest =
    ap (λ t. lines (t ++ rest)) (sym (written-lines text)) ∙ lines_written (lines text) rest (none_in_lines text)

no_lines : lines [] ≡ []
unfolding lines
no_lines = refl

-- the lines of lines that are written
pub lines_of_written : (ls : List (List ℕ)) → All HasNoNewline ls → lines (written ls) ≡ ls
lines_of_written ls none =
    ap lines (sym (append-nil (written ls))) ∙ lines_written ls [] none ∙ ap (λ more. ls ++ more) no_lines ∙ append-nil ls

pub lines_between : (rest : List ℕ) → lines (between ++ rest) ≡ [] ∷ codes "[Unit]" ∷ lines rest
lines_between rest =
    lines_line [] (codes "[Unit]\n" ++ rest) refl ∙ ap (λ ls. [] ∷ ls) (lines_line (codes "[Unit]") rest refl)

-- ---- the lines of a merged text

-- the lines of texts, with the two lines that are before each text but the first
abbrev pub lines_after : List (List ℕ) → List (List ℕ)
lines_after [] = []
lines_after (text ∷ more) = [] ∷ codes "[Unit]" ∷ (lines text ++ lines_after more)

lines_added : (texts : List (List ℕ)) → lines (added texts) ≡ lines_after texts
lines_added [] = no_lines
lines_added (text ∷ more) =
    lines_between (with_newline text ++ added more)
    ∙ ap (λ ls. [] ∷ codes "[Unit]" ∷ ls) (lines_before text (added more) ∙ ap (λ ls. lines text ++ ls) (lines_added more))

pub lines_merged : (text : List ℕ) (more : List (List ℕ)) → lines (merged (text ∷ more)) ≡ lines text ++ lines_after more
lines_merged text more = lines_before text (added more) ∙ ap (λ ls. lines text ++ ls) (lines_added more)

-- ---- how many lines there are

last_of_more : (b next : ℕ) (more : List ℕ) → ends_line (b ∷ next ∷ more) ≡ ends_line (next ∷ more)
last_of_more b next more =
    let place : length (b ∷ next ∷ more) - 1 ≡ suc (length (next ∷ more) - 1) = omega arith in
    ap (λ k. option_map_or (λ x. x == 10) (slice_get (b ∷ next ∷ more) k) true) place

behind : (e : Bool) (b : ℕ) (xs ys : List ℕ) → b ∷ cond e xs ys ≡ cond e (b ∷ xs) (b ∷ ys)
behind true b xs ys = refl
behind false b xs ys = refl

-- a newline is added where the last line has none
pub with_newline_is : (text : List ℕ) → with_newline text ≡ cond (ends_line text) text (text ++ 10 ∷ [])
with_newline_is [] = refl
with_newline_is (b ∷ []) = refl
with_newline_is (b ∷ next ∷ more) =
    ap (λ t. b ∷ t) (with_newline_is (next ∷ more))
    ∙ behind (ends_line (next ∷ more)) b (next ∷ more) (next ∷ more ++ 10 ∷ [])
    ∙ ap (λ e. cond e (b ∷ next ∷ more) (b ∷ next ∷ more ++ 10 ∷ [])) (sym (last_of_more b next more))

-- a text whose last line has no newline, added with one
pub with_newline_added :
    (text more : List ℕ) → ends_line more ≡ false → (text ++ more) ++ 10 ∷ [] ≡ text ++ with_newline more
with_newline_added text more open_end =
    append_assoc text more (10 ∷ [])
    ∙ ap (λ t. text ++ t) (ap (λ e. cond e more (more ++ 10 ∷ [])) (sym open_end) ∙ sym (with_newline_is more))

abbrev pub newlines : List ℕ → ℕ
newlines text = count_by (λ b. b == 10) text

newlines_append : (xs ys : List ℕ) → newlines (xs ++ ys) ≡ newlines xs + newlines ys
newlines_append xs ys = sum_by-append (λ b. cond (b == 10) 1 0) xs ys

newlines_none : (line : List ℕ) → HasNoNewline line → newlines line ≡ 0
newlines_none [] none = refl
newlines_none (b ∷ more) none =
    let here : (b == 10) ≡ false = grind (arith, nat_tests) in
    let there : HasNoNewline more = grind (arith, nat_tests) in
    let rest : newlines more ≡ 0 = newlines_none more there in
    rw here (omega (arith, rest))

newlines_written : (ls : List (List ℕ)) → All HasNoNewline ls → newlines (written ls) ≡ length ls
newlines_written [] none = refl
newlines_written (line ∷ more) none =
    let whole : newlines (line ++ 10 ∷ written more) ≡ newlines line + newlines (10 ∷ written more) =
    newlines_append line (10 ∷ written more) in
    let newline : newlines (10 ∷ written more) ≡ 1 + newlines (written more) = newlines_append (10 ∷ []) (written more) in
    let here : newlines line ≡ 0 = newlines_none line (All-head HasNoNewline line more none) in
    let rest : newlines (written more) ≡ length more = newlines_written more (All-tail HasNoNewline line more none) in
    omega (arith, whole, newline, here, rest)

counted_by : (e : Bool) (text : List ℕ) → newlines (cond e text (text ++ 10 ∷ [])) ≡ cond e (newlines text) (newlines text + 1)
counted_by true text = refl
counted_by false text = newlines_append text (10 ∷ [])

-- a line for each newline, and one for an end without a newline
pub lines_counted : (text : List ℕ) → length (lines text) ≡ cond (ends_line text) (newlines text) (newlines text + 1)
lines_counted text =
    sym (newlines_written (lines text) (none_in_lines text))
    ∙ ap newlines (written-lines text ∙ with_newline_is text)
    ∙ counted_by (ends_line text) text

-- ---- a merged text ends in a newline

ends_append : (xs : List ℕ) (y : ℕ) (ys : List ℕ) → ends_line (xs ++ y ∷ ys) ≡ ends_line (y ∷ ys)
ends_append [] y ys = refl
ends_append (x ∷ []) y ys = last_of_more x y ys
ends_append (x ∷ next ∷ more) y ys = last_of_more x next (more ++ y ∷ ys) ∙ ends_append (next ∷ more) y ys

ends_newline : (text : List ℕ) → ends_line text ≡ true → ends_line (10 ∷ text) ≡ true
ends_newline [] ended = refl
ends_newline (b ∷ more) ended = last_of_more 10 b more ∙ ended

ended_written : (ls : List (List ℕ)) → ends_line (written ls) ≡ true
ended_written [] = refl
ended_written (line ∷ more) = ends_append line 10 (written more) ∙ ends_newline (written more) (ended_written more)

written-append : (xs ys : List (List ℕ)) → written (xs ++ ys) ≡ written xs ++ written ys
written-append [] ys = refl
written-append (line ∷ more) ys =
    ap (λ t. line ++ 10 ∷ t) (written-append more ys) ∙ sym (append_assoc line (10 ∷ written more) (written ys))

added_written : (texts : List (List ℕ)) → added texts ≡ written (lines_after texts)
added_written [] = refl
added_written (text ∷ more) =
    ap (λ t. between ++ t)
    (ap (λ t. t ++ added more) (sym (written-lines text))
    ∙ ap (λ t. written (lines text) ++ t) (added_written more)
    ∙ sym (written-append (lines text) (lines_after more)))

pub merged_ended : (texts : List (List ℕ)) → ends_line (merged texts) ≡ true
merged_ended [] = refl
merged_ended (text ∷ more) =
    ap ends_line
    (ap (λ t. t ++ added more) (sym (written-lines text))
    ∙ ap (λ t. written (lines text) ++ t) (added_written more)
    ∙ sym (written-append (lines text) (lines_after more)))
    ∙ ended_written (lines text ++ lines_after more)
