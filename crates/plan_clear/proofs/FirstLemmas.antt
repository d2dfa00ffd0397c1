-- What the loop of `first_entry` keeps: the first entry of the jobs so far (`first_of-job`). That of all jobs is the first of
-- the agenda (`first_of_all`), since there is only one (LeastLemmas.antt).
use Rattle.std.proofs.Common.{◌≡◌, ℕ, zero, suc, ◌+◌, ◌<◌, ◌≤◌, Bool, true, false, List, [], ◌∷◌, length, Option, Some, None, inl, inr, sym, ◌∙◌, subst, below_more, arith}
use Rattle.std.specs.Prelude.{nat_le, slice_get}
use Rattle.std.proofs.lemmas.Bool.{cases_lt, le-leb, lt-leb, true≢false, false_from_ne_true}
use Rattle.plan_next.specs.Span.{Bounds}
use Rattle.plan_next.specs.Starts.{IsFirstIn}
use Rattle.plan_rules.specs.Job.{JobParts}
use Rattle.plan_collect.specs.Windows.{agenda_of_windows, has_window, timings_of}
use Rattle.plan_clear.specs.First.{IsNotAfter, earlier_of}
use Rattle.plan_clear.proofs.LeastLemmas.{IsFirst, agenda-first, first_unique, not_late}

-- ---- the first window of one job

-- a window opens at this second and none earlier, or None if no window opens at all
abbrev pub IsOpening : (ℕ → Bool) → Option ℕ → Type 0
IsOpening opens None = (second : ℕ) → opens second ≡ false
IsOpening opens (Some first) = (opens first ≡ true) × ((second : ℕ) → opens second ≡ true → first ≤ second)

pub is_opening :
    (job : JobParts) (span : Bounds) (answer : Option ℕ) → IsFirstIn (has_window (Some job) span) 0 span.upto answer →
    IsOpening (has_window (Some job) span) answer
is_opening job span None none =
    λ second. false_from_ne_true (has_window (Some job) span second)
    (λ is. true≢false (sym is ∙ none second (omega arith) (not_late (Some job) span second is)))
is_opening job span (Some first) (from, before, is, none) = (
  is,
  λ second opens. elim (cases_lt second first) [
    | inl lt ↦ absurd (true≢false (sym opens ∙ none second (omega arith) lt))
    | inr le ↦ le
  ],
)

-- ---- the first entry of the jobs so far

-- the answer is the first entry of the jobs with numbers below this one, or None if they have none; `opens` says at which
-- seconds a window of a job opens that meets the span
abbrev pub IsFirstOf : (opens : (number second : ℕ) → Bool) → (below : ℕ) → Option (ℕ × ℕ) → Type 0
IsFirstOf opens below None = (number : ℕ) → number < below → (second : ℕ) → opens number second ≡ false
IsFirstOf opens below (Some entry) =
    (entry.1 < below)
    × (opens entry.1 entry.0 ≡ true)
    × ((number : ℕ) → number < below → (second : ℕ) → opens number second ≡ true → IsNotAfter entry (second, number))

-- the entry of one more job is the first, if it is earlier than all others
own_first :
    (opens : (number second : ℕ) → Bool) (below second : ℕ) → IsOpening (opens below) (Some second) →
    ((number : ℕ) → number < below → (other : ℕ) → opens number other ≡ true → second < other) →
    IsFirstOf opens (below + 1) (Some (second, below))
own_first opens below second (is, least) later = (
  omega arith,
  is,
  below_more (λ number. (other : ℕ) → opens number other ≡ true → IsNotAfter (second, below) (other, number)) below
      (λ number lt other is_open. (let after = later number lt other is_open in (omega arith, λ same. absurd (omega arith))))
      (λ other is_open. (least other is_open, λ same. omega arith)),
)

-- the first entry so far stays the first, if one more job has none earlier
still_first :
    (opens : (number second : ℕ) → Bool) (below : ℕ) (entry : ℕ × ℕ) → IsFirstOf opens below (Some entry) →
    ((other : ℕ) → opens below other ≡ true → entry.0 ≤ other) → IsFirstOf opens (below + 1) (Some entry)
still_first opens below entry (lt, is, least) later = (
  omega arith,
  is,
  below_more (λ number. (other : ℕ) → opens number other ≡ true → IsNotAfter entry (other, number)) below least
      (λ other is_open. (later other is_open, λ same. omega arith)),
)

-- one more job
pub first_of-more :
    (opens : (number second : ℕ) → Bool) (below : ℕ) (first : Option (ℕ × ℕ)) (own : Option ℕ) → IsFirstOf opens below first →
    IsOpening (opens below) own → IsFirstOf opens (below + 1) (earlier_of first own below)
first_of-more opens below None None so_far none = below_more (λ number. (second : ℕ) → opens number second ≡ false) below so_far none
first_of-more opens below (Some entry) None so_far none =
    still_first opens below entry so_far (λ other is_open. absurd (true≢false (sym is_open ∙ none other)))
first_of-more opens below None (Some second) so_far own =
    own_first opens below second own (λ number lt other is_open. absurd (true≢false (sym is_open ∙ so_far number lt other)))
first_of-more opens below (Some entry) (Some second) so_far own =
    elim (cases_lt second entry.0) [
      | inl earlier ↦ (
          let is : nat_le entry.0 second ≡ false = lt-leb _ _ earlier in
          rw is (own_first opens below second own
          (λ number lt other is_open. (let known = so_far.2 number lt other is_open in omega (arith, known.0)))))
      | inr le ↦ (
          let is : nat_le entry.0 second ≡ true = le-leb _ _ le in
          rw is (still_first opens below entry so_far (λ other is_open. (let known = own.1 other is_open in omega arith))))
    ]

-- the windows of the jobs in the list
abbrev pub opens_in : List JobParts → Bounds → (number second : ℕ) → Bool
opens_in jobs span number second = has_window (slice_get jobs number) span second

-- one more job of the list
pub first_of-job :
    (jobs : List JobParts) (span : Bounds) (number : ℕ) (job : JobParts) (first : Option (ℕ × ℕ)) (own : Option ℕ) →
    Some job ≡ slice_get jobs number → IsFirstOf (opens_in jobs span) number first →
    IsFirstIn (has_window (Some job) span) 0 span.upto own → IsFirstOf (opens_in jobs span) (number + 1) (earlier_of first own number)
first_of-job jobs span number job first own is so_far least =
    let opening : IsOpening (opens_in jobs span number) own =
    subst (λ (o : Option JobParts). IsOpening (has_window o span) own) is (is_opening job span own least) in
    first_of-more (opens_in jobs span) number first own so_far opening

-- ---- the first entry of all jobs

-- a job with an entry is in the list
opens_below : (jobs : List JobParts) (span : Bounds) (number second : ℕ) → opens_in jobs span number second ≡ true → number < length jobs
opens_below [] span number second is = absurd (true≢false (sym is))
opens_below (job ∷ jobs) span zero second is = omega arith
opens_below (job ∷ jobs) span (suc number) second is = let lt = opens_below jobs span number second is in omega arith

whole :
    (jobs : List JobParts) (span : Bounds) (answer : Option (ℕ × ℕ)) → IsFirstOf (opens_in jobs span) (length jobs) answer →
    IsFirst jobs span answer
whole jobs span None none =
    λ second number. false_from_ne_true (opens_in jobs span number second)
    (λ is. true≢false (sym is ∙ none number (opens_below jobs span number second is) second))
whole jobs span (Some entry) (lt, is, least) =
    (is, λ second number is_open. least number (opens_below jobs span number second is_open) second is_open)

-- the first entry of all jobs is the first of the agenda
pub first_of_all :
    (jobs : List JobParts) (span : Bounds) (answer : Option (ℕ × ℕ)) → IsFirstOf (opens_in jobs span) (length jobs) answer →
    answer ≡ slice_get (agenda_of_windows (timings_of jobs) span) 0
first_of_all jobs span answer is =
    first_unique jobs span answer (slice_get (agenda_of_windows (timings_of jobs) span) 0) (whole jobs span answer is)
    (agenda-first jobs span)
