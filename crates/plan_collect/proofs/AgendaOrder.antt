-- An agenda ascends: for `Collector::finish`, by HoldsLemmas.antt, which shows that the sorted entries are the agenda. By
-- induction over the seconds, and in each row over the timings. In a row the jobs ascend, and no entry of a later row comes
-- before one of an earlier second.
use Rattle.std.proofs.Common.{◌≡◌, ℕ, zero, suc, ◌+◌, ◌<◌, ◌≤◌, Bool, true, false, cond, ◌&&◌, List, [], ◌∷◌, ◌++◌, arith}
use Rattle.std.specs.List.{range_with_len, flat_map}
use Rattle.std.proofs.lemmas.Bool.Decides.{nat_tests}
use Rattle.plan_next.specs.Starts.{is_start}
use Rattle.plan_next.specs.Span.{Bounds}
use Rattle.plan_collect.specs.Windows.{Timing, meets, windows_from, agenda_of_windows}
use Rattle.plan_collect.proofs.StartsLemmas.{is_before, NoneBefore, Ascends}

NoneBefore-append : (x : ℕ × ℕ) (xs ys : List (ℕ × ℕ)) → NoneBefore x xs → NoneBefore x ys → NoneBefore x (xs ++ ys)
NoneBefore-append x [] ys none others = others
NoneBefore-append x (y ∷ xs) ys (here, none) others = (here, NoneBefore-append x xs ys none others)

none_step : (is : Bool) (x y : ℕ × ℕ) (row : List (ℕ × ℕ)) → is_before y x ≡ false → NoneBefore x row → NoneBefore x (cond is (y ∷ row) row)
none_step true x y row here none = (here, none)
none_step false x y row here none = none

-- in a row, no entry comes before one that comes before all its places
NoneBefore-row :
    (x : ℕ × ℕ) (n job : ℕ) (timings : List Timing) (span : Bounds) → ((k : ℕ) → job ≤ k → is_before (n, k) x ≡ false) →
    NoneBefore x (windows_from job timings span n)
NoneBefore-row x n job [] span first = tt
NoneBefore-row x n job (timing ∷ timings) span first =
    none_step (is_start timing.rule n && meets span timing.delay n) x (n, job) (windows_from (job + 1) timings span n)
    (first job (omega arith)) (NoneBefore-row x n (job + 1) timings span (λ k low. first k (omega arith)))

NoneBefore-rows :
    (m j : ℕ) (timings : List Timing) (span : Bounds) (a k : ℕ) → m < a →
    NoneBefore (m, j) (flat_map (windows_from 0 timings span) (range_with_len a k))
NoneBefore-rows m j timings span a zero lt = tt
NoneBefore-rows m j timings span a (suc k) lt =
    NoneBefore-append (m, j) (windows_from 0 timings span a) (flat_map (windows_from 0 timings span) (range_with_len (a + 1) k))
    (NoneBefore-row (m, j) a 0 timings span (λ k low. grind (arith, nat_tests)))
    (NoneBefore-rows m j timings span (a + 1) k (omega arith))

ascends_step :
    (is : Bool) (x : ℕ × ℕ) (row ys : List (ℕ × ℕ)) → NoneBefore x (row ++ ys) → Ascends (row ++ ys) →
    Ascends (cond is (x ∷ row) row ++ ys)
ascends_step true x row ys none up = (none, up)
ascends_step false x row ys none up = up

-- a row before later entries
Ascends-row :
    (n job : ℕ) (timings : List Timing) (span : Bounds) (ys : List (ℕ × ℕ)) → ((j : ℕ) → NoneBefore (n, j) ys) → Ascends ys →
    Ascends (windows_from job timings span n ++ ys)
Ascends-row n job [] span ys none up = up
Ascends-row n job (timing ∷ timings) span ys none up =
    ascends_step (is_start timing.rule n && meets span timing.delay n) (n, job) (windows_from (job + 1) timings span n) ys
    (NoneBefore-append (n, job) (windows_from (job + 1) timings span n) ys
    (NoneBefore-row (n, job) n (job + 1) timings span (λ k low. grind (arith, nat_tests))) (none job))
    (Ascends-row n (job + 1) timings span ys none up)

Ascends-rows : (timings : List Timing) (span : Bounds) (a k : ℕ) → Ascends (flat_map (windows_from 0 timings span) (range_with_len a k))
Ascends-rows timings span a zero = tt
Ascends-rows timings span a (suc k) =
    Ascends-row a 0 timings span (flat_map (windows_from 0 timings span) (range_with_len (a + 1) k))
    (λ j. NoneBefore-rows a j timings span (a + 1) k (omega arith)) (Ascends-rows timings span (a + 1) k)

pub Ascends-agenda : (timings : List Timing) (span : Bounds) → Ascends (agenda_of_windows timings span)
unfolding agenda_of_windows
Ascends-agenda timings span = Ascends-rows timings span 0 span.upto
