-- At which blanks a text may be cut, and how its lines are found.
-- For `after_blanks`, `cut_word`, `word_len` and the clauses of `lines`. A blank is ASCII, so a text may be cut before
-- or after it. The proofs about lines are by induction over the bytes; the hard part is the empty last piece that
-- `without_empty_end` drops.
use Rattle.std.proofs.Common.{◌≡◌, ℕ, zero, suc, ◌+◌, ◌-◌, ◌<◌, ◌≤◌, Bool, true, false, cond, ◌==◌, eqb, List, [], ◌∷◌, length, take, get_or, map, Option, Some, None, unwrap_or, refl, ap, sym, ◌∙◌, arith, inl, inr, position}
use Rattle.std.proofs.lemmas.Bool.{cases_lt, lt-ltb, le-ltb}
use Rattle.std.proofs.lemmas.Bool.Decides.{nat_tests, Decides-eqb}
use Rattle.std.proofs.lemmas.List.Sums.{prefix_len-le-length, prefix_len_passes, passes_at_first}
use Rattle.std.proofs.lemmas.Str.{IsCharBoundary-start, IsCharBoundary-end, IsCharBoundary-before_ascii, IsCharBoundary-after_ascii}
use Rattle.std.specs.List.{prefix_len, position_or_len, slice_split, onto_first, All, slice_get}
use Rattle.std.proofs.lemmas.List.{length-map, get_or-map, take-map}
use Rattle.std.proofs.lemmas.Option.{slice_get-get_or, same_Some, none-some}
use Rattle.std.proofs.lemmas.List.Elements.{All-nil, All-cons, All-head, All-tail}
use Rattle.std.specs.Option.{option_map, MatchOption}
use Rattle.std.specs.Str.{IsUtf8, IsCharBoundary}
use Rattle.plan_texts.specs.Text.{is_blank}
use Rattle.plan_texts.specs.Lines.{without_empty_end, lines, written, with_newline, HasNoNewline}

-- a blank is an ASCII character
pub blank_ascii : (b : ℕ) → is_blank b ≡ true → b < 128
blank_ascii b is = grind (arith, nat_tests)

-- a text may be cut after its leading blanks
pub boundary_after_blanks : (text : List ℕ) → IsUtf8 text → IsCharBoundary text (prefix_len is_blank text)
boundary_after_blanks text utf8 =
    elim (cases_lt 0 (prefix_len is_blank text)) as (λ _. IsCharBoundary text (prefix_len is_blank text)) [
      | inl some ↦
          let n = prefix_len is_blank text in
          let whole : prefix_len is_blank text ≤ length text = prefix_len-le-length is_blank text in
          let last : prefix_len is_blank text - 1 < prefix_len is_blank text = omega arith in
          let inside : prefix_len is_blank text - 1 < length text = omega arith in
          let next : (prefix_len is_blank text - 1) + 1 ≡ prefix_len is_blank text = omega arith in
          let cut = IsCharBoundary-after_ascii text (prefix_len is_blank text - 1) utf8 inside
          (blank_ascii _ (prefix_len_passes is_blank text (prefix_len is_blank text - 1) 0 last)) in
          rw next at cut
      | inr none ↦
          let zero_is : prefix_len is_blank text ≡ 0 = omega arith in
          rw zero_is (IsCharBoundary-start text utf8)
    ]

-- a text may be cut before its first blank
pub boundary_before_blank : (text : List ℕ) → IsUtf8 text → IsCharBoundary text (position_or_len is_blank text)
boundary_before_blank text utf8 = grind (arith, nat_tests, cases_lt, IsCharBoundary-before_ascii, blank_ascii, passes_at_first, prefix_len-le-length, IsCharBoundary-end)

-- the place of the first element that passes the test, or the end
pub unwrap_or-position : (p : ℕ → Bool) (xs : List ℕ) → unwrap_or (position p xs) (length xs) ≡ position_or_len p xs
unwrap_or-position p xs = grind (arith, nat_tests, cases_lt, lt-ltb, prefix_len-le-length, le-ltb)

-- ---- lines

ahead : (b : Bool) (y : List ℕ) (xs ys : List (List ℕ)) → y ∷ cond b xs ys ≡ cond b (y ∷ xs) (y ∷ ys)
ahead b y xs ys = grind (arith, nat_tests)

-- a list of pieces without its last piece, if that is empty
without_empty_end-last :
    (ys : List (List ℕ)) (n : ℕ) (d : List ℕ) → length ys ≡ suc n →
    without_empty_end ys ≡ cond (eqb (length (get_or ys n d)) 0) (take n ys) ys
without_empty_end-last [] n d long = absurd (omega arith)
without_empty_end-last (y ∷ []) zero d long = refl
without_empty_end-last (y ∷ []) (suc n) d long = absurd (omega arith)
without_empty_end-last (y ∷ z ∷ more) zero d long = absurd (omega arith)
without_empty_end-last (y ∷ z ∷ more) (suc n) d long = grind (arith, nat_tests, ahead, without_empty_end-last (z ∷ more) n d (omega arith))

map-cond : {A : Type 0} (v : A → List ℕ) (b : Bool) (xs ys : List A) → map v (cond b xs ys) ≡ cond b (map v xs) (map v ys)
map-cond v b xs ys = grind (arith, nat_tests)

-- the last piece is dropped if it is empty
pub dropped_where_empty :
    {A B : Type 0} (v : A → List ℕ) (w : B → A) (all : List A) (last : Option B) (empty : Bool) →
    option_map w last ≡ slice_get all (length all - 1) → MatchOption last (empty ≡ false) (λ x. empty ≡ eqb (length (v (w x))) 0) →
    map v (cond empty (take (length all - 1) all) all) ≡ without_empty_end (map v all)
dropped_where_empty v w [] None empty is tested = rw tested refl
dropped_where_empty v w [] (Some x) empty is tested = absurd (cc is)
dropped_where_empty v w (a ∷ more) None empty is tested =
    let n : suc (length more) - 1 ≡ length more = omega arith in
    let found : slice_get (a ∷ more) (length more) ≡ Some (get_or (a ∷ more) (length more) a) = slice_get-get_or (a ∷ more)
    (length more) a (omega arith) in
    absurd (none-some _ (is ∙ ap (slice_get (a ∷ more)) n ∙ found))
dropped_where_empty v w (a ∷ more) (Some x) empty is tested =
    let n : suc (length more) - 1 ≡ length more = omega arith in
    let found : slice_get (a ∷ more) (length more) ≡ Some (get_or (a ∷ more) (length more) a) = slice_get-get_or (a ∷ more)
    (length more) a (omega arith) in
    let last : w x ≡ get_or (a ∷ more) (length more) a = same_Some _ _ (is ∙ ap (slice_get (a ∷ more)) n ∙ found) in
    let piece : get_or (map v (a ∷ more)) (length more) (v a) ≡ v (w x) = get_or-map v (a ∷ more) (length more) a (v a)
    (omega arith) ∙ ap v (sym last) in
    ap (λ k. map v (cond empty (take k (a ∷ more)) (a ∷ more))) n
    ∙ map-cond v empty (take (length more) (a ∷ more)) (a ∷ more)
    ∙ ap (λ xs. cond empty xs (map v (a ∷ more))) (sym (take-map v (length more) (a ∷ more)))
    ∙ ap (λ b. cond b (take (length more) (map v (a ∷ more))) (map v (a ∷ more))) (tested ∙ ap (λ l. eqb (length l) 0) (sym piece))
    ∙ sym (without_empty_end-last (map v (a ∷ more)) (length more) (v a) (simp length-map))

length-ahead : (ys : List (List ℕ)) (n : ℕ) → length (without_empty_end ys) ≤ n → length (without_empty_end ([] ∷ ys)) ≤ suc n
length-ahead ys n given = grind (arith, nat_tests)

length-onto :
    (x : ℕ) (ys : List (List ℕ)) (n : ℕ) → length (without_empty_end ys) ≤ n → length (without_empty_end (onto_first x ys)) ≤ suc n
length-onto x ys n given = grind (arith, nat_tests)

-- there are at most as many lines as bytes
length-split : (p : ℕ → Bool) (text : List ℕ) → length (without_empty_end (slice_split p text)) ≤ length text
length-split p [] = omega arith
length-split p (x ∷ xs) = grind (arith, nat_tests, length-ahead, length-onto, length-split p xs)

pub length-lines : (text : List ℕ) → length (lines text) ≤ length text
unfolding lines
length-lines text = length-split (λ b. b == 10) text

-- ---- a text and its lines

-- the pieces of a text that isn't empty: they are not just one empty piece
abbrev AreSome : List (List ℕ) → Type 0
AreSome [] = ⊥
AreSome ([] ∷ []) = ⊥
AreSome ((b ∷ bs) ∷ []) = Unit {0}
AreSome (piece ∷ next ∷ more) = Unit {0}

-- there is at least one piece
abbrev pub IsPiece : List (List ℕ) → Type 0
IsPiece [] = ⊥
IsPiece (piece ∷ more) = Unit {0}

piece_onto : (x : ℕ) (pieces : List (List ℕ)) → IsPiece (onto_first x pieces)
piece_onto x pieces = grind (arith, nat_tests)

pub piece_of_split : (p : ℕ → Bool) (text : List ℕ) → IsPiece (slice_split p text)
piece_of_split p [] = tt
piece_of_split p (x ∷ xs) = grind (arith, nat_tests, piece_onto)

some_onto : (x : ℕ) (pieces : List (List ℕ)) → AreSome (onto_first x pieces)
some_onto x pieces = grind (arith, nat_tests)

some_behind : (pieces : List (List ℕ)) → IsPiece pieces → AreSome ([] ∷ pieces)
some_behind pieces given = grind (arith, nat_tests)

some_of_split : (p : ℕ → Bool) (x : ℕ) (xs : List ℕ) → AreSome (slice_split p (x ∷ xs))
some_of_split p x xs = grind (arith, nat_tests, some_behind, piece_of_split, some_onto)

one_byte :
    (x : ℕ) (b : Bool) → (b ≡ true → x ≡ 10) →
    written (without_empty_end (cond b ([] ∷ [] ∷ []) ((x ∷ []) ∷ []))) ≡ cond b (x ∷ []) (x ∷ 10 ∷ [])
one_byte x b given = grind (arith, nat_tests)

one_more :
    (x : ℕ) (b : Bool) (pieces : List (List ℕ)) → (b ≡ true → x ≡ 10) → AreSome pieces →
    written (without_empty_end (cond b ([] ∷ pieces) (onto_first x pieces))) ≡ x ∷ written (without_empty_end pieces)
one_more x b pieces given given₂ = grind (arith, nat_tests)

-- the lines, each with a newline after it, are the text with a newline at its end
written-split : (text : List ℕ) → written (without_empty_end (slice_split (λ b. b == 10) text)) ≡ with_newline text
written-split [] = refl
written-split (x ∷ []) = one_byte x (x == 10) (Decides-eqb x 10).0
written-split (x ∷ y ∷ more) =
    one_more x (x == 10) (slice_split (λ b. b == 10) (y ∷ more)) (Decides-eqb x 10).0 (some_of_split (λ b. b == 10) y more)
    ∙ ap (λ bytes. x ∷ bytes) (written-split (y ∷ more))

pub written-lines : (text : List ℕ) → written (lines text) ≡ with_newline text
unfolding lines
written-lines text = written-split text

none_onto : (x : ℕ) (pieces : List (List ℕ)) → (x == 10) ≡ false → All HasNoNewline pieces → All HasNoNewline (onto_first x pieces)
none_onto x [] other none = All-cons HasNoNewline (x ∷ []) [] (rw other refl) (All-nil HasNoNewline)
none_onto x (piece ∷ more) other none =
    All-cons HasNoNewline (x ∷ piece) more (rw other (All-head HasNoNewline piece more none)) (All-tail HasNoNewline piece more none)

none_in_cut :
    (x : ℕ) (b : Bool) (pieces : List (List ℕ)) → (x == 10) ≡ b → All HasNoNewline pieces →
    All HasNoNewline (cond b ([] ∷ pieces) (onto_first x pieces))
none_in_cut x true pieces is none = All-cons HasNoNewline [] pieces refl none
none_in_cut x false pieces is none = none_onto x pieces is none

none_in_split : (text : List ℕ) → All HasNoNewline (slice_split (λ b. b == 10) text)
none_in_split [] = All-cons HasNoNewline [] [] refl (All-nil HasNoNewline)
none_in_split (x ∷ xs) = none_in_cut x (x == 10) (slice_split (λ b. b == 10) xs) refl (none_in_split xs)

none_without_end : (pieces : List (List ℕ)) → All HasNoNewline pieces → All HasNoNewline (without_empty_end pieces)
none_without_end [] none = none
none_without_end (last ∷ []) none = grind (arith, nat_tests, All-nil)
none_without_end (line ∷ next ∷ more) none =
    All-cons HasNoNewline line (without_empty_end (next ∷ more)) (All-head HasNoNewline line (next ∷ more) none)
    (none_without_end (next ∷ more) (All-tail HasNoNewline line (next ∷ more) none))

-- no line contains a newline
pub none_in_lines : (text : List ℕ) → All HasNoNewline (lines text)
unfolding lines
none_in_lines text = none_without_end (slice_split (λ b. b == 10) text) (none_in_split text)
