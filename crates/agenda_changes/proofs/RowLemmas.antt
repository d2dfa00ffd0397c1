-- The rows of changes, one after the other: the starts of changes, and what the rows have.
use Rattle.std.proofs.Common.{◌≡◌, ℕ, zero, suc, ◌+◌, ◌<◌, List, [], ◌∷◌, ◌++◌, length, map, take, get_or, Option, None, Some, slice_get, ap, sym, ◌∙◌, append-nil}
use Rattle.std.specs.Prelude.{slice_index}
use Rattle.std.specs.List.{cons_option}
use Rattle.std.specs.Str.Lossy.{utf8_lossy}
use Rattle.std.proofs.lemmas.List.{length-map, map-append, take_more}
use Rattle.std.proofs.lemmas.List.Elements.{filter_map-append}
use Rattle.std.proofs.lemmas.Option.{get_or_from_slice_get, slice_get-get_or, slice_get_within}
use Rattle.plan_baseline.specs.Line.{Line}
use Rattle.plan_changes.specs.Texts.{start_in}
use Rattle.plan_changes.specs.declared.Change.{Change}
use Rattle.agenda_changes.specs.Counts.{counts_of, with_line}
use Rattle.agenda_changes.specs.Rows.{RunsChange, change_of, changed_lines, count_of, firsts}
use Rattle.agenda_changes.proofs.FirstLemmas.{firsts_more}

-- one more start, if there is one
line_more : (lines : List Line) (line : Option Line) → firsts (lines ++ cons_option line []) ≡ with_line (firsts lines) line
line_more lines None = ap firsts (append-nil lines)
line_more lines (Some line) = firsts_more lines line

-- one more change
pub change_more :
    (before now : List Line) (changes : List Change) (n : ℕ) (d : Change) (fs new : List (List ℕ × ℕ)) → n < length changes →
    fs ≡ firsts (changed_lines before now (take n changes)) →
    new ≡ with_line fs (start_in before now (get_or changes n d).kind (get_or changes n d).place) →
    new ≡ firsts (changed_lines before now (take (n + 1) changes))
change_more before now changes n d fs new within so_far made =
    made ∙ ap (λ found. with_line found (start_in before now (get_or changes n d).kind (get_or changes n d).place)) so_far
    ∙ sym (line_more (changed_lines before now (take n changes))
    (start_in before now (get_or changes n d).kind (get_or changes n d).place))
    ∙ ap firsts (sym (ap (changed_lines before now) (take_more changes n d within)
    ∙ filter_map-append (λ (one : Change). start_in before now one.kind one.place) (take n changes) (get_or changes n d ∷ [])))

-- the count of a row
count_at :
    (lines : List Line) (fs : List (List ℕ × ℕ)) (n : ℕ) (first : List ℕ × ℕ) → Some first ≡ slice_get fs n →
    slice_index (counts_of lines fs) n ≡ count_of first.0 lines
count_at lines [] n first there = absurd (cc)
count_at lines (one ∷ fs) zero first there =
    let same : one ≡ first = cc in ap (λ (other : List ℕ × ℕ). count_of other.0 lines) same
count_at lines (one ∷ fs) (suc n) first there = count_at lines fs n first there

-- one more row
pub row_more :
    (earlier later : List Line) (fs : List (List ℕ × ℕ)) (n : ℕ) (first : List ℕ × ℕ) (before after : List ℕ)
    (rows : List RunsChange) (row : RunsChange) → Some first ≡ slice_get fs n → before ≡ counts_of earlier fs →
    after ≡ counts_of later fs → rows ≡ map (change_of earlier later) (take n fs) →
    row ≡ record { runs = utf8_lossy first.0; before = slice_index before n; after = slice_index after n; first = first.1 } →
    rows ++ row ∷ [] ≡ map (change_of earlier later) (take (n + 1) fs)
row_more earlier later fs n first before after rows row there are_before are_after so_far made =
    let is_before : slice_index before n ≡ count_of first.0 earlier =
    ap (λ counts. slice_index counts n) are_before ∙ count_at earlier fs n first there in
    let is_after : slice_index after n ≡ count_of first.0 later =
    ap (λ counts. slice_index counts n) are_after ∙ count_at later fs n first there in
    let is : row ≡ change_of earlier later first =
    made ∙ (λ i. record { runs = utf8_lossy first.0; before = is_before i; after = is_after i; first = first.1 }) in
    (λ i. so_far i ++ is i ∷ [])
    ∙ sym (map-append (change_of earlier later) (take n fs) (first ∷ []))
    ∙ sym (ap (map (change_of earlier later)) (take_more fs n first (slice_get_within fs n first (sym there))
    ∙ ap (λ one. take n fs ++ one ∷ []) (get_or_from_slice_get fs n first first (sym there))))

-- each row has what is run
pub no_first : (fs : List (List ℕ × ℕ)) (n : ℕ) → None ≡ slice_get fs n → n < length fs → ⊥
no_first fs n none within = let some = slice_get-get_or fs n ([], 0) within in cc

-- there is a count for each row
pub counts_len : (lines : List Line) (fs : List (List ℕ × ℕ)) (counts : List ℕ) → counts ≡ counts_of lines fs → length counts ≡ length fs
counts_len lines fs counts is = ap length is ∙ length-map fs (λ first. count_of first.0 lines)
