-- The laws of changes. Of the starts of a list before a place, those that are the same as another are changes as often as there are
-- more copies of it than the other list has (`counted`).
use Rattle.std.proofs.Common.{◌≡◌, ℕ, zero, suc, ◌+◌, ◌-◌, ◌≤◌, Bool, true, false, cond, ◌&&◌, ◌==◌, List, [], ◌∷◌, ◌++◌, length, take, Option, None, Some, refl, ap, subst, sym, ◌∙◌, arith, take_all}
use Rattle.std.specs.Prelude.{count_by, nat_le, slice_get}
use Rattle.std.specs.List.{cons_option, filter_map, range_with_len, sum_by}
use Rattle.std.specs.Str.{bytes_eq}
use Rattle.std.proofs.lemmas.Bool.{and_from, eq-eqb, leb-false, leb-true, lt-leb}
use Rattle.std.proofs.lemmas.List.{take_more}
use Rattle.std.proofs.lemmas.List.Sorted.{sum_by-IsPermutation}
use Rattle.std.proofs.lemmas.List.Sums.{sum_by-append, sum_by-cons}
use Rattle.std.proofs.lemmas.Option.{slice_get-get_or}
use Rattle.std.proofs.lemmas.Slice.Eq.{bytes_eq-Decides}
use Rattle.plan_baseline.specs.Line.{Line}
use Rattle.plan_changes.specs.declared.change.Change.{Change}
use Rattle.plan_changes.specs.declared.change.ChangeKind.{ChangeKind}
use Rattle.plan_changes.specs.declared.change.ChangeKind.TheVariants.{Added, Removed}
use Rattle.plan_changes.specs.Changes.{AreChanges, change_at, change_by, changes_of, copies, is_lacking, is_same, kind_number}
use Rattle.plan_changes.specs.Laws.{ChangesAreDifferences, NoChangesIfSame, is_change, is_start, times_changed}
use Rattle.plan_changes.proofs.CompareLemmas.{before_more, changes_before}
use Rattle.plan_changes.proofs.CountLemmas.{count_cons, count_push, fewer_of_all, less_before, times}
use Rattle.plan_changes.proofs.CompareLemmas.{line_in, no_line, same_copies}

-- ---- the changes of one kind

-- the count with one more start: whether it is lacking, and whether it is the same
more_counted :
    (lacking same : Bool) (count others : ℕ) → (same ≡ true → lacking ≡ nat_le others count) →
    count - others + cond lacking (times same) 0 ≡ count + times same - others
more_counted true true count others is = let le = leb-true others count (sym (is refl)) in omega arith
more_counted false true count others is = let lt = leb-false others count (sym (is refl)) in omega arith
more_counted true false count others is = omega arith
more_counted false false count others is = omega arith

-- what one more start adds to a count of changes
one_counted :
    (kind : ChangeKind) (others lines : List Line) (place : ℕ) (line own : Line) → Some own ≡ slice_get lines place →
    times_changed kind lines line (cons_option (change_by kind others lines place (Some own)) [])
    ≡ cond (is_lacking others lines place own) (times (is_same line own)) 0
one_counted kind others lines place line own is = go (sym is) (is_lacking others lines place own) where
  go :
      slice_get lines place ≡ Some own → (lacking : Bool) →
      times_changed kind lines line
      (cons_option (cond lacking (Some (record { second = own.second; kind = kind; place = place })) None) [])
      ≡ cond lacking (times (is_same line own)) 0
  go there false = refl
  go there true =
      let itself : (kind_number kind == kind_number kind) ≡ true = eq-eqb (kind_number kind) (kind_number kind) refl in
      count_cons (is_change kind lines line) (record { second = own.second; kind = kind; place = place }) []
      ∙ (λ i. times (itself i && is_start line (there i)) + 0) ∙ omega arith

-- the changes of the starts before a place are as many as there are more copies
counted :
    (kind : ChangeKind) (others lines : List Line) (line : Line) (place : ℕ) → place ≤ length lines →
    times_changed kind lines line (changes_before kind others lines place) ≡ copies line (take place lines) - copies line others
counted kind others lines line zero within = omega arith
counted kind others lines line (suc place) within =
    let own = line_in lines place in
    let there : Some own ≡ slice_get lines place = sym (slice_get-get_or lines place no_line (omega arith)) in
    let next : place + 1 ≡ suc place = omega arith in
    let longer : copies line (take (place + 1) lines) ≡ copies line (take place lines) + times (is_same line own) =
    ap (count_by (is_same line)) (take_more lines place no_line (omega arith)) ∙ count_push (is_same line) (take place lines) own in
    let one = one_counted kind others lines place line own there in
    let more = more_counted (is_lacking others lines place own) (is_same line own) (copies line (take place lines))
    (copies line others) (λ is. (let same = same_copies line own is in
    λ i. nat_le (sym (same others) i) (sym (same (take place lines)) i))) in
    subst
    (λ n. times_changed kind lines line (changes_before kind others lines n) ≡ copies line (take n lines) - copies line others) next
    (ap (count_by (is_change kind lines line)) (before_more kind others lines place own there)
    ∙ sum_by-append (λ change. cond (is_change kind lines line change) 1 0) (changes_before kind others lines place) _
    ∙ (λ i. counted kind others lines line place (omega arith) i + one i)
    ∙ more ∙ ap (λ n. n - copies line others) (sym longer))

-- a change of one kind isn't of the other
none_of_other :
    (kind other : ChangeKind) (line : Line) (lines those others : List Line) (places : List ℕ) →
    (kind_number other == kind_number kind) ≡ false →
    times_changed kind lines line (filter_map (change_at other others those) places) ≡ 0
none_of_other kind other line lines those others [] apart = refl
none_of_other kind other line lines those others (place ∷ places) apart =
    go (slice_get those place) (none_of_other kind other line lines those others places apart) where
      off :
          (lacking : Bool) (change : Change) (changes : List Change) → change.kind ≡ other → times_changed kind lines line changes ≡ 0 →
          times_changed kind lines line (cons_option (cond lacking (Some change) None) changes) ≡ 0
      off false change changes is none = none
      off true change changes is none =
          let not_of : (kind_number change.kind == kind_number kind) ≡ false =
          ap (λ k. kind_number k == kind_number kind) is ∙ apart in
          count_cons (is_change kind lines line) change changes
          ∙ (λ i. times (not_of i && is_start line (slice_get lines change.place)) + none i)

      go :
          (own : Option Line) → times_changed kind lines line (filter_map (change_at other others those) places) ≡ 0 →
          times_changed kind lines line
          (cons_option (change_by other others those place own) (filter_map (change_at other others those) places))
          ≡ 0
      go None none = none
      go (Some own) none =
          off (is_lacking others those place own) (record { second = own.second; kind = other; place = place })
          (filter_map (change_at other others those) places) refl none

-- all of a list
all_counted :
    (kind : ChangeKind) (others lines : List Line) (line : Line) →
    times_changed kind lines line (changes_of kind others lines) ≡ copies line lines - copies line others
all_counted kind others lines line =
    counted kind others lines line (length lines) (omega arith)
    ∙ ap (λ some. copies line some - copies line others) (take_all (length lines) lines (omega arith))

-- ---- the laws

both_counted :
    (kind : ChangeKind) (lines before now : List Line) (line : Line) (changes : List Change) → AreChanges before now changes →
    times_changed kind lines line changes
    ≡ times_changed kind lines line (changes_of Removed now before) + times_changed kind lines line (changes_of Added before now)
both_counted kind lines before now line changes (same, sorted) =
    sum_by-IsPermutation (λ change. cond (is_change kind lines line change) 1 0)
    (changes_of Removed now before ++ changes_of Added before now) changes same
    ∙ sum_by-append (λ change. cond (is_change kind lines line change) 1 0) (changes_of Removed now before)
    (changes_of Added before now)

pub differences : ChangesAreDifferences
differences before now changes line are =
    let removed = all_counted Removed now before line in
    let added = all_counted Added before now line in
    let no_added = none_of_other Removed Added line before now before (range_with_len 0 (length now)) refl in
    let no_removed = none_of_other Added Removed line now before now (range_with_len 0 (length before)) refl in (
      omega (arith, both_counted Removed before before now line changes are, removed, no_added),
      omega (arith, both_counted Added now before now line changes are, added, no_removed),
    )

same_itself : (line : Line) → is_same line line ≡ true
same_itself line =
    and_from (line.second == line.second) (bytes_eq line.runs line.runs) (eq-eqb line.second line.second refl)
    ((bytes_eq-Decides line.runs line.runs).1 refl)

-- if the other list has each start as often, it lacks none
none_lacking :
    (kind : ChangeKind) (others lines : List Line) → ((line : Line) → copies line lines ≡ copies line others) → (place : ℕ) →
    place ≤ length lines → changes_before kind others lines place ≡ []
none_lacking kind others lines same zero within = refl
none_lacking kind others lines same (suc place) within =
    let own = line_in lines place in
    let there : Some own ≡ slice_get lines place = sym (slice_get-get_or lines place no_line (omega arith)) in
    let next : place + 1 ≡ suc place = omega arith in
    let less = less_before (is_same own) lines no_line place (place + 1) (omega arith) (omega arith) (same_itself own) in
    let all = fewer_of_all (is_same own) lines (place + 1) in
    let kept : is_lacking others lines place own ≡ false =
    lt-leb (copies own others) (copies own (take place lines)) (omega (arith, less, all, same own)) in
    subst (λ n. changes_before kind others lines n ≡ []) next
    (before_more kind others lines place own there
    ∙ (λ i. none_lacking kind others lines same place (omega arith) i
    ++ cons_option (cond (kept i) (Some (record { second = own.second; kind = kind; place = place })) None) []))

none_of_none : (changes : List Change) → sum_by (λ change. 1) changes ≡ 0 → changes ≡ []
none_of_none [] none = refl
none_of_none (change ∷ changes) none = absurd (omega (arith, none, sum_by-cons (λ change. 1) change changes))

pub none_if_same : NoChangesIfSame
none_if_same before now changes are = (
  λ none line. (let (removed, added) = differences before now changes line are in
      omega (arith, removed, added, ap (times_changed Removed before line) none, ap (times_changed Added now line) none)),
  λ same. (let removed = none_lacking Removed now before same (length before) (omega arith) in
      let added = none_lacking Added before now (λ line. sym (same line)) (length now) (omega arith) in
      let all : (changes_of Removed now before ++ changes_of Added before now) ≡ [] = λ i. removed i ++ added i in
      none_of_none changes (sum_by-IsPermutation (λ change. 1) (changes_of Removed now before ++ changes_of Added before now) changes
      are.0 ∙ ap (sum_by (λ change. 1)) all)),
)
