-- What starts run, each once: with one more start at the end (`firsts_more`), and how often each text is there (`once`).
use Rattle.std.proofs.Common.{◌≡◌, ℕ, ◌+◌, Bool, true, false, cond, not, ◌||◌, List, [], ◌∷◌, ◌++◌, filter, refl, ap, sym, ◌∙◌, arith, append-nil}
use Rattle.std.specs.Cmp.Lexicographic.{nat_list_eq_equiv}
use Rattle.std.specs.Prelude.{count_by}
use Rattle.std.specs.List.{list_any}
use Rattle.std.specs.Str.{bytes_eq}
use Rattle.std.proofs.lemmas.List.Elements.{filter-append}
use Rattle.std.proofs.lemmas.List.Sums.{sum_by-cons}
use Rattle.std.proofs.lemmas.Map.Views.{any-filter_same}
use Rattle.plan_baseline.specs.Line.{Line}
use Rattle.agenda_changes.specs.Counts.{with_first}
use Rattle.agenda_changes.specs.Laws.{EachHasRow}
use Rattle.agenda_changes.specs.Rows.{firsts}

-- whether what is run is that of a first start
abbrev pub is_of : (runs : List ℕ) → (first : List ℕ × ℕ) → Bool
is_of runs first = bytes_eq runs first.0

-- whether it is another text
abbrev pub is_other : (runs : List ℕ) → (first : List ℕ × ℕ) → Bool
is_other runs first = not (bytes_eq runs first.0)

-- without another text it is there as before
any_kept :
    (runs other : List ℕ) (fs : List (List ℕ × ℕ)) → bytes_eq runs other ≡ false →
    list_any (is_of runs) (filter (is_other other) fs) ≡ list_any (is_of runs) fs
any_kept runs other fs apart =
    any-filter_same (is_of runs) (is_other other) true
    (λ first is. ap not (nat_list_eq_equiv.symm other first.0 ∙ sym (nat_list_eq_equiv.congr runs first.0 other is) ∙ apart)) fs

-- a text that is another than the first one is kept, and the same is left out
kept : (other : List ℕ) (first : List ℕ × ℕ) (same : Bool) → bytes_eq first.0 other ≡ same → (fs : List (List ℕ × ℕ)) →
    filter (is_other other) (fs ++ first ∷ []) ≡ filter (is_other other) fs ++ cond (not same) (first ∷ []) []
kept other first same is fs =
    filter-append (is_other other) fs (first ∷ [])
    ∙ ap (λ b. filter (is_other other) fs ++ cond (not b) (first ∷ []) []) (nat_list_eq_equiv.symm other first.0 ∙ is)

-- one more start after a first one: it runs the same, or what is run is there already, or it is new
more :
    (line : Line) (one : List ℕ × ℕ) (fs : List (List ℕ × ℕ)) (same there : Bool) → bytes_eq line.runs one.0 ≡ same →
    list_any (is_of line.runs) fs ≡ there →
    one ∷ filter (is_other one.0) (cond there fs (fs ++ (line.runs, line.second) ∷ []))
    ≡ with_first (one ∷ filter (is_other one.0) fs) line.runs line.second
more line one fs true true is found = simp is
more line one fs true false is found =
    rw is (ap (λ xs. one ∷ xs) (kept one.0 (line.runs, line.second) true is fs ∙ append-nil (filter (is_other one.0) fs)))
more line one fs false true is found =
    let there : list_any (is_of line.runs) (filter (is_other one.0) fs) ≡ true = any_kept line.runs one.0 fs is ∙ found in
    rw is (rw there refl)
more line one fs false false is found =
    let there : list_any (is_of line.runs) (filter (is_other one.0) fs) ≡ false = any_kept line.runs one.0 fs is ∙ found in
    rw is (rw there (ap (λ xs. one ∷ xs) (kept one.0 (line.runs, line.second) false is fs)))

pub firsts_more :
    (lines : List Line) (line : Line) → firsts (lines ++ line ∷ []) ≡ with_first (firsts lines) line.runs line.second
firsts_more [] line = refl
firsts_more (one ∷ lines) line =
    ap (λ fs. (one.runs, one.second) ∷ filter (is_other one.runs) fs) (firsts_more lines line)
    ∙ more line (one.runs, one.second) (firsts lines) (bytes_eq line.runs one.runs) (list_any (is_of line.runs) (firsts lines)) refl refl

-- ---- the law

count_cons :
    (runs : List ℕ) (first : List ℕ × ℕ) (fs : List (List ℕ × ℕ)) →
    count_by (is_of runs) (first ∷ fs) ≡ cond (bytes_eq runs first.0) 1 0 + count_by (is_of runs) fs
count_cons runs first fs = sum_by-cons (λ one. cond (is_of runs one) 1 0) first fs

-- one more text, which is left out or not
one_kept :
    (runs : List ℕ) (first : List ℕ × ℕ) (fs others : List (List ℕ × ℕ)) (same out here : Bool) → bytes_eq runs first.0 ≡ here →
    (same ≡ true → here ≡ out) → (same ≡ false → out ≡ true → here ≡ false) →
    count_by (is_of runs) others ≡ cond same 0 (count_by (is_of runs) fs) →
    count_by (is_of runs) (cond (not out) (first ∷ others) others) ≡ cond same 0 (count_by (is_of runs) (first ∷ fs))
one_kept runs first fs others true true here is alike apart so_far = so_far
one_kept runs first fs others true false here is alike apart so_far =
    omega (arith, count_cons runs first others, ap {B = ℕ} (λ b. cond b 1 0) (is ∙ alike refl), so_far)
one_kept runs first fs others false true here is alike apart so_far =
    omega (arith, count_cons runs first fs, ap {B = ℕ} (λ b. cond b 1 0) (is ∙ apart refl refl), so_far)
one_kept runs first fs others false false here is alike apart so_far =
    omega (arith, count_cons runs first fs, count_cons runs first others, so_far)

-- a text that is left out isn't there, and any other is there as often as before
counted_kept :
    (runs other : List ℕ) (fs : List (List ℕ × ℕ)) (same : Bool) → bytes_eq runs other ≡ same →
    count_by (is_of runs) (filter (is_other other) fs) ≡ cond same 0 (count_by (is_of runs) fs)
counted_kept runs other [] true is = refl
counted_kept runs other [] false is = refl
counted_kept runs other (first ∷ fs) same is =
    one_kept runs first fs (filter (is_other other) fs) same (bytes_eq other first.0) (bytes_eq runs first.0) refl
    (λ yes. nat_list_eq_equiv.congr runs other first.0 (is ∙ yes))
    (λ no out. nat_list_eq_equiv.symm runs first.0 ∙ sym (nat_list_eq_equiv.congr other first.0 runs out)
    ∙ nat_list_eq_equiv.symm other runs ∙ is ∙ no)
    (counted_kept runs other fs same is)

one_once : (here there : Bool) (count : ℕ) → count ≡ cond there 1 0 → cond here 1 0 + cond here 0 count ≡ cond (here || there) 1 0
one_once true there count is = refl
one_once false there count is = omega (arith, is)

pub once : EachHasRow
once [] runs = refl
once (line ∷ lines) runs =
    count_cons runs (line.runs, line.second) (filter (is_other line.runs) (firsts lines))
    ∙ ap (λ n. cond (bytes_eq runs line.runs) 1 0 + n) (counted_kept runs line.runs (firsts lines) (bytes_eq runs line.runs) refl)
    ∙ one_once (bytes_eq runs line.runs) (list_any (λ other. bytes_eq runs other.runs) lines) (count_by (is_of runs) (firsts lines))
    (once lines runs)
