-- Starts that are the same, and the changes that are appended place by place: for `push_lacking`.
use Rattle.std.proofs.Common.{◌≡◌, ℕ, zero, suc, ◌+◌, ◌<◌, Bool, true, false, cond, ◌&&◌, ◌==◌, List, [], ◌∷◌, ◌++◌, length, get_or, Option, None, Some, refl, ap, sym, ◌∙◌, arith, append_assoc}
use Rattle.std.specs.Prelude.{count_by, slice_get}
use Rattle.std.specs.Str.{bytes_eq}
use Rattle.std.proofs.lemmas.Slice.Eq.{bytes_eq-Decides}
use Rattle.std.specs.List.{cons_option, filter_map, range_with_len}
use Rattle.std.proofs.lemmas.List.Elements.{filter_map-append}
use Rattle.std.proofs.lemmas.Bool.{and_parts, eqb-true}
use Rattle.std.proofs.lemmas.Option.{slice_get-get_or}
use Rattle.plan_baseline.specs.Line.{Line}
use Rattle.plan_changes.specs.declared.change.Change.{Change}
use Rattle.plan_changes.specs.declared.change.ChangeKind.{ChangeKind}
use Rattle.plan_changes.specs.Changes.{change_at, change_by, copies, is_lacking, is_same}

-- no start
abbrev pub no_line : Line
no_line = record { second = 0; job = []; runs = [] }

-- the start at a place of a list
abbrev pub line_in : List Line → (place : ℕ) → Line
line_in lines place = get_or lines place no_line

-- the same starts have as many copies
pub same_copies : (one other : Line) → is_same one other ≡ true → (lines : List Line) → copies one lines ≡ copies other lines
same_copies one other is lines =
    let (seconds, texts) = and_parts (one.second == other.second) (bytes_eq one.runs other.runs) is in
    let second = eqb-true one.second other.second seconds in
    let runs = (bytes_eq-Decides one.runs other.runs).0 texts in
    λ i. count_by (λ line. second i == line.second && bytes_eq (runs i) line.runs) lines

-- the changes of the starts before a place
abbrev pub changes_before : ChangeKind → (others lines : List Line) → (place : ℕ) → List Change
changes_before kind others lines place = filter_map (change_at kind others lines) (range_with_len 0 place)

range_more : (a n : ℕ) → range_with_len a (n + 1) ≡ range_with_len a n ++ (a + n) ∷ []
range_more a zero = let place : a + 0 ≡ a = omega arith in rw place refl
range_more a (suc n) =
    let more : suc n + 1 ≡ suc (n + 1) = omega arith in
    let place : (a + 1) + n ≡ a + suc n = omega arith in
    rw more (ap (λ (ks : List ℕ). a ∷ ks) (range_more (a + 1) n ∙ ap (λ k. range_with_len (a + 1) n ++ k ∷ []) place))

one_or_none : {X : Type 0} (is : Bool) (x : X) → cond is (x ∷ []) [] ≡ cons_option (cond is (Some x) None) []
one_or_none true x = refl
one_or_none false x = refl

-- the changes of one more start
pub before_more :
    (kind : ChangeKind) (others lines : List Line) (place : ℕ) (line : Line) → Some line ≡ slice_get lines place →
    changes_before kind others lines (place + 1)
    ≡ changes_before kind others lines place ++ cons_option (change_by kind others lines place (Some line)) []
before_more kind others lines place line own =
    let here : 0 + place ≡ place = omega arith in
    ap (filter_map (change_at kind others lines)) (range_more 0 place ∙ ap (λ k. range_with_len 0 place ++ k ∷ []) here)
    ∙ filter_map-append (change_at kind others lines) (range_with_len 0 place) (place ∷ [])
    ∙ ap (λ (one : Option Line). changes_before kind others lines place ++ cons_option (change_by kind others lines place one) [])
    (sym own)

-- the change of one more start is appended
abbrev pub change_if : (is : Bool) → ChangeKind → (place : ℕ) → Line → List Change
change_if is kind place line = cond is (record { second = line.second; kind = kind; place = place } ∷ []) []

pub appended_more :
    (kind : ChangeKind) (others lines : List Line) (place : ℕ) (line : Line) (old done new : List Change) (is : Bool) →
    Some line ≡ slice_get lines place → done ≡ old ++ changes_before kind others lines place →
    is ≡ is_lacking others lines place line → new ≡ done ++ change_if is kind place line →
    new ≡ old ++ changes_before kind others lines (place + 1)
appended_more kind others lines place line old done new is own so_far answer more =
    more ∙ (λ i. so_far i ++ change_if (answer i) kind place line)
    ∙ append_assoc old (changes_before kind others lines place) (change_if (is_lacking others lines place line) kind place line)
    ∙ ap (λ (more : List Change). old ++ more) (ap (λ (one : List Change). changes_before kind others lines place ++ one)
    (one_or_none (is_lacking others lines place line) (record { second = line.second; kind = kind; place = place }))
    ∙ sym (before_more kind others lines place line own))

-- there is a start at each place of a list
pub not_past : (lines : List Line) (place : ℕ) → None ≡ slice_get lines place → place < length lines → ⊥
not_past lines place none lt = let some = slice_get-get_or lines place no_line lt in cc
