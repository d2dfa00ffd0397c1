-- The law of origins: the line at the origin of a line is that line.
use Rattle.std.proofs.Common.{◌≡◌, ℕ, zero, suc, ◌+◌, ◌-◌, ◌<◌, ◌≤◌, Bool, true, false, cond, eqb, nat_le, List, [], ◌∷◌, ◌++◌, length, get_or, drop, codes, Option, None, refl, ap, sym, subst, ◌∙◌, length-drop, arith, inl, inr}
use Rattle.std.proofs.lemmas.Bool.{cases_lt}
use Rattle.std.proofs.lemmas.Bool.Decides.{nat_tests}
use Rattle.std.proofs.lemmas.List.{append-nil, drop_more, length-map}
use Rattle.std.specs.List.{slice_get}
use Rattle.plan_texts.specs.Lines.{lines}
use Rattle.plan_parts.specs.declared.origin.Origin.{Origin}
use Rattle.plan_parts.specs.Files.{FileBytes, texts_of}
use Rattle.plan_parts.specs.Merging.{merged}
use Rattle.plan_parts.specs.Origin.{IsAdded, after_one, line_at, line_in, origin_of}
use Rattle.plan_parts.proofs.LinesLemmas.{lines_after, lines_merged}

-- ---- the line with a number

-- the line with a number among lines
abbrev nth : List (List ℕ) → ℕ → Option (List ℕ)
nth ls n = cond (eqb n 0) None (slice_get ls (n - 1))

nth_some : (ls : List (List ℕ)) (n k : ℕ) → n ≡ k + 1 → nth ls n ≡ slice_get ls k
nth_some ls n k is =
    let other : eqb n 0 ≡ false = grind (arith, nat_tests) in
    let place : n - 1 ≡ k = omega (arith, is) in
    rw (other, place) refl

get_before : (xs ys : List (List ℕ)) (k : ℕ) → k < length xs → slice_get (xs ++ ys) k ≡ slice_get xs k
get_before [] ys k inside = absurd (omega (arith, inside))
get_before (x ∷ xs) ys zero inside = refl
get_before (x ∷ xs) ys (suc k) inside = get_before xs ys k (omega (arith, inside))

get_after : (xs ys : List (List ℕ)) (k j : ℕ) → j ≡ length xs + k → slice_get (xs ++ ys) j ≡ slice_get ys k
get_after [] ys k j is =
    let same : j ≡ k = omega (arith, is) in
    ap (slice_get ys) same
get_after (x ∷ xs) ys k zero is = absurd (omega (arith, is))
get_after (x ∷ xs) ys k (suc j) is = get_after xs ys k j (omega (arith, is))

-- a line of the first of two lists
nth_before : (xs ys : List (List ℕ)) (n : ℕ) → n ≤ length xs → nth (xs ++ ys) n ≡ nth xs n
nth_before xs ys zero inside = refl
nth_before xs ys (suc k) inside =
    let is : suc k ≡ k + 1 = omega arith in
    nth_some (xs ++ ys) (suc k) k is ∙ get_before xs ys k (omega (arith, inside)) ∙ sym (nth_some xs (suc k) k is)

-- a line of the second of two lists
nth_after : (xs ys : List (List ℕ)) (n m : ℕ) → n ≡ length xs + m → 0 < m → nth (xs ++ ys) n ≡ nth ys m
nth_after xs ys n zero is some = absurd (omega (arith, some))
nth_after xs ys n (suc k) is some =
    let last : n ≡ length xs + k + 1 = omega (arith, is) in
    let next : suc k ≡ k + 1 = omega arith in
    nth_some (xs ++ ys) n (length xs + k) last ∙ get_after xs ys k (length xs + k) refl ∙ sym (nth_some ys (suc k) k next)

-- ---- the lines of the first text, and those that follow

line_here :
    (text : List ℕ) (more : List (List ℕ)) (n : ℕ) → n ≤ length (lines text) → line_at (merged (text ∷ more)) n ≡ line_at text n
line_here text more n inside =
    ap (λ ls. nth ls n) (lines_merged text more) ∙ nth_before (lines text) (lines_after more) n inside

line_later :
    (text next : List ℕ) (more : List (List ℕ)) (n m : ℕ) → n ≡ length (lines text) + 2 + m → 0 < m →
    line_at (merged (text ∷ next ∷ more)) n ≡ line_at (merged (next ∷ more)) m
line_later text next more n m is some =
    ap (λ ls. nth ls n) (lines_merged text (next ∷ more))
    ∙ nth_after (lines text) (lines_after (next ∷ more)) n (m + 2) (omega (arith, is)) (omega arith)
    ∙ nth_after ([] ∷ codes "[Unit]" ∷ []) (lines next ++ lines_after more) (m + 2) m (omega arith) some
    ∙ ap (λ ls. nth ls m) (sym (lines_merged next more))

line_between :
    (text next : List ℕ) (more : List (List ℕ)) (n k : ℕ) → n ≡ length (lines text) + k + 1 →
    line_at (merged (text ∷ next ∷ more)) n ≡ slice_get (lines_after (next ∷ more)) k
line_between text next more n k is =
    ap (λ ls. nth ls n) (lines_merged text (next ∷ more))
    ∙ nth_some (lines text ++ lines_after (next ∷ more)) n (length (lines text) + k) is
    ∙ get_after (lines text) (lines_after (next ∷ more)) k (length (lines text) + k) refl

-- ---- origins

-- the origin of the whole is the whole of the first text
whole_origin : (texts : List (List ℕ)) → (origin_of texts 0).line ≡ 0
whole_origin [] = refl
whole_origin (text ∷ []) = refl
whole_origin (text ∷ next ∷ more) =
    let first : nat_le 0 (length (lines text)) ≡ true = grind (arith, nat_tests) in
    rw first refl

-- a line whose origin is a line is not the whole
some_line : (texts : List (List ℕ)) (m : ℕ) → 0 < (origin_of texts m).line → 0 < m
some_line texts zero some = absurd (omega (arith, some, whole_origin texts))
some_line texts (suc k) some = omega arith

in_next :
    (text : List ℕ) (texts : List (List ℕ)) (o : Origin) → line_in (text ∷ texts) (after_one o) ≡ line_in texts o
in_next text texts o =
    let place : o.part + 1 ≡ suc o.part = omega arith in
    ap (λ k. line_at (get_or (text ∷ texts) k []) o.line) place

-- the law at a text that others follow, by whether it has so many lines
same_by :
    (text next : List ℕ) (more : List (List ℕ)) (n : ℕ) (b : Bool) → nat_le n (length (lines text)) ≡ b →
    (0 < (origin_of (next ∷ more) (n - length (lines text) - 2)).line →
    line_at (merged (next ∷ more)) (n - length (lines text) - 2)
    ≡ line_in (next ∷ more) (origin_of (next ∷ more) (n - length (lines text) - 2))) →
    0 < (cond b (record { part = 0; line = n }) (after_one (origin_of (next ∷ more) (n - length (lines text) - 2)))).line →
    line_at (merged (text ∷ next ∷ more)) n
    ≡ line_in (text ∷ next ∷ more)
    (cond b (record { part = 0; line = n }) (after_one (origin_of (next ∷ more) (n - length (lines text) - 2))))
same_by text next more n true is rest some = line_here text (next ∷ more) n (grind (arith, nat_tests))
same_by text next more n false is rest some =
    let m = n - length (lines text) - 2 in
    let later : length (lines text) < n = grind (arith, nat_tests) in
    let positive : 0 < m = some_line (next ∷ more) m some in
    let place : n ≡ length (lines text) + 2 + m = omega (arith, later, positive) in
    line_later text next more n m place positive ∙ rest some ∙ sym (in_next text (next ∷ more) (origin_of (next ∷ more) m))

-- the line at the origin of a line is that line
pub origin_same :
    (texts : List (List ℕ)) (n : ℕ) → 0 < (origin_of texts n).line → line_at (merged texts) n ≡ line_in texts (origin_of texts n)
origin_same [] n some = refl
origin_same (text ∷ []) n some = ap (λ ls. nth ls n) (lines_merged text [] ∙ append-nil (lines text))
origin_same (text ∷ next ∷ more) n some =
    same_by text next more n (nat_le n (length (lines text))) refl (origin_same (next ∷ more) (n - length (lines text) - 2)) some

added_by :
    (text next : List ℕ) (more : List (List ℕ)) (n : ℕ) (b : Bool) → nat_le n (length (lines text)) ≡ b →
    (0 < n - length (lines text) - 2 → (origin_of (next ∷ more) (n - length (lines text) - 2)).line ≡ 0 →
    IsAdded (line_at (merged (next ∷ more)) (n - length (lines text) - 2))) →
    0 < n →
    (cond b (record { part = 0; line = n }) (after_one (origin_of (next ∷ more) (n - length (lines text) - 2)))).line ≡ 0 →
    IsAdded (line_at (merged (text ∷ next ∷ more)) n)
added_by text next more n true is rest some whole = absurd (omega (arith, some, whole))
added_by text next more n false is rest some whole =
    let m = n - length (lines text) - 2 in
    let later : length (lines text) < n = grind (arith, nat_tests) in
    elim (cases_lt 0 m) as (λ _. IsAdded (line_at (merged (text ∷ next ∷ more)) n)) [
      | inl positive ↦
          let place : n ≡ length (lines text) + 2 + m = omega (arith, later, positive) in
          rw (line_later text next more n m place positive) (rest positive whole)
      | inr none ↦
          elim (cases_lt (length (lines text) + 1) n) as (λ _. IsAdded (line_at (merged (text ∷ next ∷ more)) n)) [
            | inl second ↦ inr (line_between text next more n 1 (omega (arith, none, second)))
            | inr first ↦ inl (line_between text next more n 0 (omega (arith, first, later)))
          ]
    ]

-- a line that comes from no line of a text was added
pub origin_added :
    (texts : List (List ℕ)) (n : ℕ) → 0 < n → (origin_of texts n).line ≡ 0 → IsAdded (line_at (merged texts) n)
origin_added [] n some whole = absurd (omega (arith, some, whole))
origin_added (text ∷ []) n some whole = absurd (omega (arith, some, whole))
origin_added (text ∷ next ∷ more) n some whole =
    added_by text next more n (nat_le n (length (lines text))) refl
    (λ positive none. origin_added (next ∷ more) (n - length (lines text) - 2) positive none) some whole

inside_by :
    (n count : ℕ) (o : Origin) (b : Bool) → o.part < count → (cond b (record { part = 0; line = n }) (after_one o)).part < suc count
inside_by n count o true inside = omega arith
inside_by n count o false inside = omega (arith, inside)

-- each line comes from one of the texts
pub origin_inside : (texts : List (List ℕ)) (n : ℕ) → 0 < length texts → (origin_of texts n).part < length texts
origin_inside [] n there = absurd (omega (arith, there))
origin_inside (text ∷ []) n there = omega arith
origin_inside (text ∷ next ∷ more) n there =
    inside_by n (length (next ∷ more)) (origin_of (next ∷ more) (n - length (lines text) - 2)) (nat_le n (length (lines text)))
    (origin_inside (next ∷ more) (n - length (lines text) - 2) (omega arith))

-- ---- the search for an origin

-- an origin in the texts from a place on
abbrev pub shifted : ℕ → Origin → Origin
shifted place origin = record { part = place + origin.part; line = origin.line }

-- the line is `left` of the files from this place on
pub record IsReached (files : List FileBytes) (line place left : ℕ) : Type 0 where
  pub same : origin_of (texts_of files) line ≡ shifted place (origin_of (texts_of (drop place files)) left)
  pub here : 0 < length files → place < length files

-- a line after the first text is in the texts that follow
first_lacks :
    (text : List ℕ) (more : List (List ℕ)) (left : ℕ) → 0 < length more → length (lines text) < left →
    origin_of (text ∷ more) left ≡ after_one (origin_of more (left - length (lines text) - 2))
first_lacks text [] left some later = absurd (omega (arith, some))
first_lacks text (next ∷ more) left some later =
    let first : nat_le left (length (lines text)) ≡ false = grind (arith, nat_tests) in
    rw first refl

-- the line is in a later file
reached_next :
    (files : List FileBytes) (line place left : ℕ) (d : FileBytes) → IsReached files line place left → place + 1 < length files →
    length (lines (get_or files place d).bytes) < left →
    IsReached files line (place + 1) (left - length (lines (get_or files place d).bytes) - 2)
reached_next files line place left d so_far more later =
    let rest = texts_of (drop (place + 1) files) in
    let some : 0 < length rest =
    rw (length-map (drop (place + 1) files) (λ file. file.bytes), length-drop (place + 1) files) (omega (arith, more)) in
    let o = origin_of rest (left - length (lines (get_or files place d).bytes) - 2) in
    let sum : place + (o.part + 1) ≡ place + 1 + o.part = omega arith in
    record {
      same = so_far.same
          ∙ ap (λ fs. shifted place (origin_of (texts_of fs) left)) (drop_more files place d (omega (arith, more)))
          ∙ ap (shifted place) (first_lacks (get_or files place d).bytes rest left some later)
          ∙ ap (λ p. record { part = p; line = o.line }) sum;
      here = λ there. more;
    }

-- the same, with the file and the numbers that the code has
pub reached_later :
    (files : List FileBytes) (line place left : ℕ) (file : FileBytes) (count next : ℕ) → file ≡ get_or files place file →
    count ≡ length (lines file.bytes) → next ≡ left - count - 2 → IsReached files line place left → place + 1 < length files →
    count < left → IsReached files line (place + 1) next
reached_later files line place left file count next found counted later so_far more after =
    let lines_of : length (lines (get_or files place file).bytes) ≡ count = ap (λ f. length (lines f.bytes)) (sym found) ∙ sym counted in
    let is : left - length (lines (get_or files place file).bytes) - 2 ≡ next = ap (λ k. left - k - 2) lines_of ∙ sym later in
    let P : ℕ → Type 0 = λ k. IsReached files line (place + 1) k in
    subst P is (reached_next files line place left file so_far more (omega (arith, lines_of, after)))
