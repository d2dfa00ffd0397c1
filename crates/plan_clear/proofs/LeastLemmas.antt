-- The first entry of an agenda is the least: for the laws, and for `first_entry`. The agenda goes by seconds, and its row
-- of a second by jobs. So its first entry is the first one of the first row that isn't empty (`rows_first`, `row_first`).
use Rattle.std.proofs.Common.{◌≡◌, ℕ, zero, suc, ◌+◌, ◌<◌, ◌≤◌, Bool, true, false, cond, List, [], ◌∷◌, ◌++◌, Option, Some, None, inl, inr, ap, refl, sym, ◌∙◌, subst, arith}
use Rattle.std.specs.Prelude.{slice_get}
use Rattle.std.specs.List.{range_with_len, flat_map}
use Rattle.std.proofs.lemmas.Bool.{cases_lt, true≢false, false_from_ne_true, and_from}
use Rattle.std.proofs.lemmas.Bool.Decides.{nat_tests}
use Rattle.std.proofs.lemmas.Option.{slice_get-map}
use Rattle.std.specs.Option.{option_map}
use Rattle.plan_next.specs.Span.{Bounds}
use Rattle.plan_next.specs.Starts.{is_start}
use Rattle.plan_rules.specs.Job.{JobParts}
use Rattle.plan_collect.specs.Windows.{timings_of, windows_from, agenda_of_windows, has_window, meets}
use Rattle.plan_clear.specs.First.{IsNotAfter, IsClear, IsLeastWindow, FirstIsLeast, NoneWithoutWindows, NothingStartsIfClear, first_of, whole_minute, whole_minutes}

-- ---- the first entry of a row

-- an entry of a second is that of the job at this place, and no job before that place has one then
record IsOfPlace (job : ℕ) (jobs : List JobParts) (span : Bounds) (second : ℕ) (entry : ℕ × ℕ) : Type 0 where
  place : ℕ
  second_is : entry.0 ≡ second
  number_is : entry.1 ≡ job + place
  is : has_window (slice_get jobs place) span second ≡ true
  none : (k : ℕ) → k < place → has_window (slice_get jobs k) span second ≡ false

-- the answer is the first entry of a second, or None if no job has an entry then
abbrev IsRowFirst : (job : ℕ) → List JobParts → Bounds → (second : ℕ) → Option (ℕ × ℕ) → Type 0
IsRowFirst job jobs span second None = (place : ℕ) → has_window (slice_get jobs place) span second ≡ false
IsRowFirst job jobs span second (Some entry) = IsOfPlace job jobs span second entry

none_of_more :
    (first : JobParts) (jobs : List JobParts) (span : Bounds) (second : ℕ) → has_window (Some first) span second ≡ false →
    ((k : ℕ) → has_window (slice_get jobs k) span second ≡ false) → (k : ℕ) →
    has_window (slice_get (first ∷ jobs) k) span second ≡ false
none_of_more first jobs span second here later zero = here
none_of_more first jobs span second here later (suc k) = later k

none_before_more :
    (first : JobParts) (jobs : List JobParts) (span : Bounds) (second place : ℕ) → has_window (Some first) span second ≡ false →
    ((k : ℕ) → k < place → has_window (slice_get jobs k) span second ≡ false) → (k : ℕ) → k < suc place →
    has_window (slice_get (first ∷ jobs) k) span second ≡ false
none_before_more first jobs span second place here later zero lt = here
none_before_more first jobs span second place here later (suc k) lt = later k (omega arith)

row_first-more :
    (job : ℕ) (first : JobParts) (jobs : List JobParts) (span : Bounds) (second : ℕ) (answer : Option (ℕ × ℕ)) →
    has_window (Some first) span second ≡ false → IsRowFirst (job + 1) jobs span second answer →
    IsRowFirst job (first ∷ jobs) span second answer
row_first-more job first jobs span second None here later = none_of_more first jobs span second here later
row_first-more job first jobs span second (Some entry) here later =
    let number = later.number_is in
    record {
      place = suc later.place;
      second_is = later.second_is;
      number_is = omega arith;
      is = later.is;
      none = none_before_more first jobs span second later.place here later.none;
    }

-- the entry of one more job, if it has one, comes before the rest of the row
row_first-step :
    (is : Bool) (job : ℕ) (first : JobParts) (jobs : List JobParts) (span : Bounds) (second : ℕ) (rest : List (ℕ × ℕ)) →
    has_window (Some first) span second ≡ is → IsRowFirst (job + 1) jobs span second (slice_get rest 0) →
    IsRowFirst job (first ∷ jobs) span second (slice_get (cond is ((second, job) ∷ rest) rest) 0)
row_first-step true job first jobs span second rest is later =
    record { place = 0; second_is = refl; number_is = omega arith; is = is; none = λ k lt. absurd (omega arith) }
row_first-step false job first jobs span second rest is later = row_first-more job first jobs span second (slice_get rest 0) is later

row_first :
    (job : ℕ) (jobs : List JobParts) (span : Bounds) (second : ℕ) →
    IsRowFirst job jobs span second (slice_get (windows_from job (timings_of jobs) span second) 0)
row_first job [] span second = λ place. refl
row_first job (first ∷ jobs) span second =
    row_first-step (has_window (Some first) span second) job first jobs span second
    (windows_from (job + 1) (timings_of jobs) span second) refl (row_first (job + 1) jobs span second)

-- ---- the first entry of all rows

-- the entry is the first one of the row of a second, and the rows before it are empty
record IsOfRow (row : ℕ → List (ℕ × ℕ)) (a b : ℕ) (entry : ℕ × ℕ) : Type 0 where
  second : ℕ
  from : a ≤ second
  before : second < b
  is : slice_get (row second) 0 ≡ Some entry
  none : (k : ℕ) → a ≤ k → k < second → slice_get (row k) 0 ≡ None

-- the answer is the first entry of the rows from second a on, before b, or None if all of them are empty
abbrev IsRowsFirst : (ℕ → List (ℕ × ℕ)) → (a b : ℕ) → Option (ℕ × ℕ) → Type 0
IsRowsFirst row a b None = (k : ℕ) → a ≤ k → k < b → slice_get (row k) 0 ≡ None
IsRowsFirst row a b (Some entry) = IsOfRow row a b entry

none_from :
    (row : ℕ → List (ℕ × ℕ)) (a b : ℕ) → slice_get (row a) 0 ≡ None →
    ((k : ℕ) → a + 1 ≤ k → k < b → slice_get (row k) 0 ≡ None) → (k : ℕ) → a ≤ k → k < b → slice_get (row k) 0 ≡ None
none_from row a b here later k from before =
    elim (cases_lt a k) [
      | inl lt ↦ later k (omega arith) before
      | inr le ↦ (let same : a ≡ k = omega arith in subst (λ k. slice_get (row k) 0 ≡ None) same here)
    ]

rows_first-more :
    (row : ℕ → List (ℕ × ℕ)) (a b : ℕ) (answer : Option (ℕ × ℕ)) → slice_get (row a) 0 ≡ None →
    IsRowsFirst row (a + 1) b answer → IsRowsFirst row a b answer
rows_first-more row a b None here later = none_from row a b here later
rows_first-more row a b (Some entry) here later =
    let low = later.from in
    record {
      second = later.second;
      from = omega arith;
      before = later.before;
      is = later.is;
      none = none_from row a later.second here later.none;
    }

-- the first entry of a row comes before all later rows
rows_first-step :
    (entries : List (ℕ × ℕ)) (row : ℕ → List (ℕ × ℕ)) (a b : ℕ) (rest : List (ℕ × ℕ)) → row a ≡ entries → a < b →
    IsRowsFirst row (a + 1) b (slice_get rest 0) → IsRowsFirst row a b (slice_get (entries ++ rest) 0)
rows_first-step [] row a b rest is lt later = rows_first-more row a b (slice_get rest 0) (rw is refl) later
rows_first-step (entry ∷ entries) row a b rest is lt later =
    record { second = a; from = omega arith; before = lt; is = rw is refl; none = λ k low high. absurd (omega arith) }

rows_first :
    (row : ℕ → List (ℕ × ℕ)) (a n : ℕ) → IsRowsFirst row a (a + n) (slice_get (flat_map row (range_with_len a n)) 0)
rows_first row a zero = λ k from before. absurd (omega arith)
rows_first row a (suc n) =
    let rest = flat_map row (range_with_len (a + 1) n) in
    let end : a + 1 + n ≡ a + suc n = omega arith in
    let later = subst (λ b. IsRowsFirst row (a + 1) b (slice_get rest 0)) end (rows_first row (a + 1) n) in
    rows_first-step (row a) row a (a + suc n) rest refl (omega arith) later

-- ---- the first entry of an agenda

-- the answer is the first entry, or None if the span is clear
abbrev pub IsFirst : List JobParts → Bounds → Option (ℕ × ℕ) → Type 0
IsFirst jobs span None = IsClear jobs span
IsFirst jobs span (Some entry) = IsLeastWindow jobs span entry

-- no window opens at the span's end or later
pub not_late : (job : Option JobParts) (span : Bounds) (second : ℕ) → has_window job span second ≡ true → second < span.upto
not_late None span second is = absurd (true≢false (sym is))
not_late (Some job) span second is = grind (arith, nat_tests)

-- no job has an entry at a second whose row is empty
none_then :
    (jobs : List JobParts) (span : Bounds) (second number : ℕ) → slice_get (windows_from 0 (timings_of jobs) span second) 0 ≡ None →
    has_window (slice_get jobs number) span second ≡ false
none_then jobs span second number empty =
    let none : IsRowFirst 0 jobs span second None = subst (IsRowFirst 0 jobs span second) empty (row_first 0 jobs span second) in
    none number

clear_of_rows :
    (jobs : List JobParts) (span : Bounds) → IsRowsFirst (windows_from 0 (timings_of jobs) span) 0 span.upto None → IsClear jobs span
clear_of_rows jobs span none second number =
    false_from_ne_true (has_window (slice_get jobs number) span second)
    (λ is. (let lt = not_late (slice_get jobs number) span second is in
    true≢false (sym is ∙ none_then jobs span second number (none second (omega arith) lt))))

not_after :
    (jobs : List JobParts) (span : Bounds) (entry : ℕ × ℕ) → (is : IsOfRow (windows_from 0 (timings_of jobs) span) 0 span.upto entry) →
    IsOfPlace 0 jobs span is.second entry → (second number : ℕ) → has_window (slice_get jobs number) span second ≡ true →
    IsNotAfter entry (second, number)
not_after jobs span entry row own second number is =
    let until = not_late (slice_get jobs number) span second is in
    let begins = own.second_is in
    let numbered = own.number_is in
    let low : row.second ≤ second = elim (cases_lt second row.second) [
      | inl before ↦ absurd (true≢false (sym is ∙ none_then jobs span second number (row.none second (omega arith) before)))
      | inr le ↦ le
    ] in (
      omega arith,
      λ same. elim (cases_lt number own.place) [
        | inl lt ↦ (
            let then : second ≡ row.second = sym same ∙ begins in
            let opens : has_window (slice_get jobs number) span row.second ≡ true =
            subst (λ n. has_window (slice_get jobs number) span n ≡ true) then is in
            absurd (true≢false (sym opens ∙ own.none number lt)))
        | inr le ↦ omega arith
      ],
    )

least_of_rows :
    (jobs : List JobParts) (span : Bounds) (entry : ℕ × ℕ) → IsOfRow (windows_from 0 (timings_of jobs) span) 0 span.upto entry →
    IsLeastWindow jobs span entry
least_of_rows jobs span entry row =
    let own : IsRowFirst 0 jobs span row.second (Some entry) = subst (IsRowFirst 0 jobs span row.second) row.is
    (row_first 0 jobs span row.second) in
    let second : entry.0 ≡ row.second = own.second_is in
    let number : entry.1 ≡ own.place = (let is = own.number_is in omega arith) in
    (rw (second, number) own.is, λ n k is. not_after jobs span entry row own n k is)

first_of_rows :
    (jobs : List JobParts) (span : Bounds) (answer : Option (ℕ × ℕ)) →
    IsRowsFirst (windows_from 0 (timings_of jobs) span) 0 span.upto answer → IsFirst jobs span answer
first_of_rows jobs span None none = clear_of_rows jobs span none
first_of_rows jobs span (Some entry) row = least_of_rows jobs span entry row

pub agenda-first : (jobs : List JobParts) (span : Bounds) → IsFirst jobs span (slice_get (agenda_of_windows (timings_of jobs) span) 0)
unfolding agenda_of_windows
agenda-first jobs span =
    let whole : 0 + span.upto ≡ span.upto = omega arith in
    first_of_rows jobs span _ (rw whole at (rows_first (windows_from 0 (timings_of jobs) span) 0 span.upto))

-- there is only one first entry
pub first_unique :
    (jobs : List JobParts) (span : Bounds) (answer other : Option (ℕ × ℕ)) → IsFirst jobs span answer → IsFirst jobs span other →
    answer ≡ other
first_unique jobs span None None clear clear₂ = refl
first_unique jobs span None (Some entry) clear (is, least) = absurd (true≢false (sym is ∙ clear entry.0 entry.1))
first_unique jobs span (Some entry) None (is, least) clear = absurd (true≢false (sym is ∙ clear entry.0 entry.1))
first_unique jobs span (Some (a, j)) (Some (b, k)) (is, least) (is₂, least₂) =
    let forth : IsNotAfter (a, j) (b, k) = least b k is₂ in
    let back : IsNotAfter (b, k) (a, j) = least₂ a j is in
    let second : a ≡ b = omega (arith, forth.0, back.0) in
    let number : j ≡ k = omega (arith, forth.1 second, back.1 (sym second)) in
    λ i. Some (second i, number i)

-- ---- the laws, with whole minutes

pub first_is_least : FirstIsLeast
first_is_least jobs span first is = subst (IsFirst (whole_minutes jobs) span) is (agenda-first (whole_minutes jobs) span)

pub without_windows : NoneWithoutWindows
without_windows jobs span = (
  λ none. subst (IsFirst (whole_minutes jobs) span) none (agenda-first (whole_minutes jobs) span),
  λ clear. first_unique (whole_minutes jobs) span (first_of jobs span) None (agenda-first (whole_minutes jobs) span) clear,
)

-- a window that has a second of the span meets it
window_of :
    (job : JobParts) (span : Bounds) (start second : ℕ) → is_start job.rule start ≡ true → start ≤ second →
    second ≤ start + job.delay → span.since ≤ second → second < span.upto → has_window (Some job) span start ≡ true
window_of job span start second is from to low high =
    and_from (is_start job.rule start) (meets span job.delay start) is (grind (arith, nat_tests))

pub nothing_starts : NothingStartsIfClear
nothing_starts jobs span number start second job none is starts from to low high =
    let clear : IsClear (whole_minutes jobs) span = (without_windows jobs span).0 none in
    let own : slice_get (whole_minutes jobs) number ≡ Some (whole_minute job) =
    slice_get-map whole_minute jobs number ∙ ap (option_map whole_minute) is in
    let not : has_window (Some (whole_minute job)) span start ≡ false =
    subst (λ (o : Option JobParts). has_window o span start ≡ false) own (clear start number) in
    true≢false (sym (window_of (whole_minute job) span start second starts from to low high) ∙ not)
