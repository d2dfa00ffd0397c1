-- How many starts run each text: with one more start.
use Rattle.std.proofs.Common.{◌≡◌, ℕ, zero, suc, ◌+◌, ◌≤◌, ◌<◌, Bool, true, false, cond, List, [], ◌∷◌, ◌++◌, map, length, take, get_or, position, option_map, Option, None, Some, IfSome, replicate, slice_get, unwrap_or, refl, ap, sym, subst, ◌∙◌, arith}
use Rattle.std.specs.Prelude.{slice_index}
use Rattle.std.specs.List.{AllByRecursion, IsDistinct, list_any}
use Rattle.std.specs.Cmp.Lexicographic.{nat_list_eq_equiv}
use Rattle.std.specs.Str.{bytes_eq}
use Rattle.std.proofs.lemmas.Bool.{or_from, or_parts}
use Rattle.std.proofs.lemmas.Bool.Decides.{nat_tests}
use Rattle.std.proofs.lemmas.Option.{get_or_from_slice_get, slice_get_within, unwrap_or-slice_get}
use Rattle.std.proofs.lemmas.List.{length-map, map-append, take_more}
use Rattle.std.proofs.lemmas.List.Quantifiers.{position-Some}
use Rattle.std.proofs.lemmas.List.Sums.{count_by-le-length, sum_by_push}
use Rattle.plan_baseline.specs.Line.{Line}
use Rattle.plan_changes.specs.Lines.{line_of_entry, lines_of, texts_at}
use Rattle.agenda_changes.specs.Counts.{counted, counts_of, row_of}
use Rattle.agenda_changes.specs.Rows.{count_of}
use Rattle.agenda_changes.proofs.FirstLemmas.{is_of}

pub position_cons :
    {X : Type 0} (p : X → Bool) (x : X) (xs : List X) → position p (x ∷ xs) ≡ cond (p x) (Some 0) (option_map suc (position p xs))
position_cons p x xs = grind (arith, nat_tests)

-- at most one element passes
abbrev pub AtMostOne : {X : Type 0} → (X → Bool) → List X → Type 0
AtMostOne p [] = Unit {0}
AtMostOne p (x ∷ xs) = (p x ≡ true → list_any p xs ≡ false) × AtMostOne p xs

none_more :
    {X : Type 0} (p : X → Bool) (f g : X → ℕ) → ((x : X) → g x ≡ f x + cond (p x) 1 0) → (xs : List X) → list_any p xs ≡ false →
    map f xs ≡ map g xs
none_more p f g more [] none = refl
none_more p f g more (x ∷ xs) none =
    let (off, others) = or_parts (p x) (list_any p xs) none in
    let same : f x ≡ g x = omega (arith, more x, ap {B = ℕ} (λ b. cond b 1 0) off) in
    λ i. same i ∷ none_more p f g more xs others i

later : (n : ℕ) (counts : List ℕ) (row : Option ℕ) → counted (n ∷ counts) (option_map suc row) ≡ n ∷ counted counts row
later n counts None = refl
later n counts (Some row) = refl

one_more :
    {X : Type 0} (p : X → Bool) (f g : X → ℕ) → ((x : X) → g x ≡ f x + cond (p x) 1 0) → (xs : List X) → AtMostOne p xs →
    counted (map f xs) (position p xs) ≡ map g xs
one_more p f g more [] one = refl
one_more p f g more (x ∷ xs) one =
    ap (counted (f x ∷ map f xs)) (position_cons p x xs) ∙ go (p x) refl (one_more p f g more xs one.1) where
      go :
          (is : Bool) → p x ≡ is → counted (map f xs) (position p xs) ≡ map g xs →
          counted (f x ∷ map f xs) (cond is (Some 0) (option_map suc (position p xs))) ≡ g x ∷ map g xs
      go true is after =
          let here : f x + 1 ≡ g x = omega (arith, more x, ap {B = ℕ} (λ b. cond b 1 0) is) in
          λ i. here i ∷ none_more p f g more xs (one.0 is) i
      go false is after =
          let here : f x ≡ g x = omega (arith, more x, ap {B = ℕ} (λ b. cond b 1 0) is) in
          later (f x) (map f xs) (position p xs) ∙ (λ i. here i ∷ after i)

-- no two of these texts are the same, so at most one is this one
at_most_one : (runs : List ℕ) (fs : List (List ℕ × ℕ)) → IsDistinct bytes_eq (map (λ first. first.0) fs) → AtMostOne (is_of runs) fs
unfolding IsDistinct
at_most_one runs [] distinct = tt
at_most_one runs (first ∷ fs) distinct = (λ is. none fs distinct.0 is, at_most_one runs fs distinct.1) where
  none :
      (fs : List (List ℕ × ℕ)) → AllByRecursion (λ other. bytes_eq first.0 other ≡ false) (map (λ first. first.0) fs) →
      bytes_eq runs first.0 ≡ true → list_any (is_of runs) fs ≡ false
  none [] apart is = refl
  none (other ∷ fs) apart is =
      or_from (bytes_eq runs other.0) (list_any (is_of runs) fs) (nat_list_eq_equiv.congr runs first.0 other.0 is ∙ apart.0)
      (none fs apart.1 is)

-- one more start
pub counts_more :
    (lines : List Line) (line : Line) (fs : List (List ℕ × ℕ)) → IsDistinct bytes_eq (map (λ first. first.0) fs) →
    counted (counts_of lines fs) (row_of line.runs fs) ≡ counts_of (lines ++ line ∷ []) fs
counts_more lines line fs distinct =
    one_more (is_of line.runs) (λ first. count_of first.0 lines) (λ first. count_of first.0 (lines ++ line ∷ []))
    (λ first. sum_by_push (λ other. cond (bytes_eq other.runs first.0) 1 0) lines line) fs (at_most_one line.runs fs distinct)

-- no more starts run a text than there are
few : (f : List ℕ × ℕ → ℕ) (most : ℕ) → ((first : List ℕ × ℕ) → f first ≤ most) → (fs : List (List ℕ × ℕ)) (n : ℕ) →
    slice_index (map f fs) n ≤ most
few f most all [] n = omega arith
few f most all (first ∷ fs) zero = all first
few f most all (first ∷ fs) (suc n) = few f most all fs n

few_of : (lines : List Line) (fs : List (List ℕ × ℕ)) (n : ℕ) → slice_index (counts_of lines fs) n ≤ length lines
few_of lines fs n =
    few (λ first. count_of first.0 lines) (length lines) (λ first. count_by-le-length (λ line. bytes_eq line.runs first.0) lines) fs n

-- the row of what is run has a count
pub row_within :
    (lines : List Line) (fs : List (List ℕ × ℕ)) (counts runs : List ℕ) (row : Option ℕ) → counts ≡ counts_of lines fs →
    row ≡ row_of runs fs → IfSome row (λ n. n < length counts)
row_within lines fs counts runs None so_far is = tt
row_within lines fs counts runs (Some n) so_far is =
    omega (
      arith,
      (position-Some (is_of runs) fs n ([], 0) (sym is)).0,
      ap length so_far,
      length-map fs (λ first. count_of first.0 lines),
    )

-- and it is at most the number of starts
pub row_few :
    (lines : List Line) (fs : List (List ℕ × ℕ)) (counts : List ℕ) (row : Option ℕ) (most : ℕ) → counts ≡ counts_of lines fs →
    length lines < most → IfSome row (λ n. slice_index counts n < most)
row_few lines fs counts None most so_far few = tt
row_few lines fs counts (Some n) most so_far few =
    let le : slice_index counts n ≤ length lines = subst (λ cs. slice_index cs n ≤ length lines) (sym so_far) (few_of lines fs n) in
    omega arith

-- before the first start
pub none_counted : (fs : List (List ℕ × ℕ)) → replicate (length fs) 0 ≡ counts_of [] fs
none_counted [] = refl
none_counted (first ∷ fs) = ap (λ counts. 0 ∷ counts) (none_counted fs)

row_of_texts :
    (fs : List (List ℕ × ℕ)) (jobs : List (List ℕ × List ℕ)) (number : ℕ) →
    unwrap_or (slice_get (map (λ texts. row_of texts.1 fs) jobs) number) (row_of [] fs) ≡ row_of (texts_at jobs number).1 fs
row_of_texts fs [] number = refl
row_of_texts fs (job ∷ jobs) zero = refl
row_of_texts fs (job ∷ jobs) (suc number) = row_of_texts fs jobs number

-- the row of what a job runs
pub row_of_job :
    (fs : List (List ℕ × ℕ)) (jobs : List (List ℕ × List ℕ)) (rows : List (Option ℕ)) (number job : ℕ) (row no_job : Option ℕ) →
    rows ≡ map (λ texts. row_of texts.1 fs) jobs → no_job ≡ row_of [] fs → number ≡ job → row ≡ unwrap_or (slice_get rows number) no_job →
    row ≡ row_of (texts_at jobs job).1 fs
row_of_job fs jobs rows number job row no_job are none same is =
    is ∙ (λ i. unwrap_or (slice_get (are i) (same i)) (none i)) ∙ row_of_texts fs jobs job

-- ---- loops

-- one more start of a list, at a place
pub before_more :
    (lines : List Line) (place : ℕ) (line : Line) (fs : List (List ℕ × ℕ)) (counts new : List ℕ) (row : Option ℕ) →
    IsDistinct bytes_eq (map (λ first. first.0) fs) → Some line ≡ slice_get lines place → counts ≡ counts_of (take place lines) fs →
    row ≡ row_of line.runs fs → new ≡ counted counts row → new ≡ counts_of (take (place + 1) lines) fs
before_more lines place line fs counts new row distinct there so_far is made =
    made ∙ (λ i. counted (so_far i) (is i)) ∙ counts_more (take place lines) line fs distinct
    ∙ ap (λ some. counts_of some fs) (sym (take_more lines place line (slice_get_within lines place line (sym there))
    ∙ ap (λ one. take place lines ++ one ∷ []) (get_or_from_slice_get lines place line line (sym there))))

-- one more start of an agenda, which is of a job
pub now_more :
    (jobs : List (List ℕ × List ℕ)) (starts : List (ℕ × ℕ)) (n : ℕ) (start : ℕ × ℕ) (fs : List (List ℕ × ℕ)) (counts new : List ℕ)
    (row : Option ℕ) → IsDistinct bytes_eq (map (λ first. first.0) fs) → n < length starts → start ≡ get_or starts n start →
    counts ≡ counts_of (lines_of jobs (take n starts)) fs → row ≡ row_of (texts_at jobs start.1).1 fs → new ≡ counted counts row →
    new ≡ counts_of (lines_of jobs (take (n + 1) starts)) fs
now_more jobs starts n start fs counts new row distinct within here so_far is made =
    made ∙ (λ i. counted (so_far i) (is i))
    ∙ counts_more (lines_of jobs (take n starts)) (line_of_entry jobs start) fs distinct
    ∙ ap (λ some. counts_of some fs) (sym (ap (lines_of jobs) (take_more starts n start within
    ∙ ap (λ one. take n starts ++ one ∷ []) (sym here)) ∙ map-append (line_of_entry jobs) (take n starts) (start ∷ [])))

-- one more job
pub rows_more :
    (jobs : List (List ℕ × List ℕ)) (n : ℕ) (name runs : List ℕ) (fs : List (List ℕ × ℕ)) (rows : List (Option ℕ)) (row : Option ℕ) →
    n < length jobs → (name, runs) ≡ texts_at jobs n → rows ≡ map (λ texts. row_of texts.1 fs) (take n jobs) → row ≡ row_of runs fs →
    rows ++ row ∷ [] ≡ map (λ texts. row_of texts.1 fs) (take (n + 1) jobs)
rows_more jobs n name runs fs rows row within there so_far is =
    (λ i. so_far i ++ (is ∙ ap (λ (texts : List ℕ × List ℕ). row_of texts.1 fs) (there ∙ unwrap_or-slice_get jobs n ([], []))) i ∷ [])
    ∙ sym (map-append (λ texts. row_of texts.1 fs) (take n jobs) (get_or jobs n ([], []) ∷ []))
    ∙ sym (ap (map (λ texts. row_of texts.1 fs)) (take_more jobs n ([], []) within))
