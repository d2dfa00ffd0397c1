-- What jobs cover, entry by entry: for the loop of `covers_of`. What is counted and what is left are together what the jobs cover.
use Rattle.std.proofs.Common.{◌≡◌, ℕ, zero, suc, ◌+◌, ◌<◌, ◌≤◌, Bool, true, false, ◌&&◌, ◌||◌, List, [], ◌∷◌, ◌++◌, length, drop, take, append-nil, take_all, get_or, map, refl, ap, sym, subst, ◌∙◌, arith}
use Rattle.std.specs.Prelude.{◌==◌, nat_le, replicate, slice_get, slice_set}
use Rattle.std.specs.List.{list_all, range_with_len}
use Rattle.std.proofs.lemmas.Bool.{and_parts, leb-true}
use Rattle.std.proofs.lemmas.Bool.Decides.{nat_tests}
use Rattle.std.proofs.lemmas.List.{drop_all}
use Rattle.plan_collect.specs.Agenda.{Planned}
use Rattle.plan_collect.specs.Windows.{latest_start}
use Rattle.plan_rules.specs.Job.{JobParts}
use Rattle.plan_write.specs.Quiet.{delay_of}
use Rattle.agenda_cover.specs.Counting.{changed_at, seconds_counted, with_window}
use Rattle.agenda_cover.specs.Cover.{AreFrom, AreInOrder, cover, is_in_window, may_start, tally}
use Rattle.agenda_cover.proofs.TallyLemmas.{tally_none, tally_same, with_one_window}

-- for each job, from a number on, what is counted and what is left: the seconds from its reach on at which it may start by later
-- entries
abbrev pub totals : List JobParts → (upto : ℕ) → (later : List (ℕ × ℕ)) → (number : ℕ) → (counted : List (ℕ × ℕ)) → List ℕ
totals jobs upto later number [] = []
totals jobs upto later number (one ∷ more) =
    (one.1 + tally (may_start jobs later number) one.0 upto) ∷ totals jobs upto later (number + 1) more

totals_new :
    (made : Planned) (jobs : List JobParts) (count number : ℕ) →
    totals jobs made.span.upto made.entries number (replicate count (made.span.since, 0))
    ≡ map (cover made jobs) (range_with_len number count)
totals_new made jobs zero number = refl
totals_new made jobs (suc count) number =
    let here : 0 + cover made jobs number ≡ cover made jobs number = omega arith in
    λ k. here k ∷ totals_new made jobs count (number + 1) k

-- before the first entry, all is left
pub all_left :
    (made : Planned) (jobs : List JobParts) (count : ℕ) (counted : List (ℕ × ℕ)) → counted ≡ replicate count (made.span.since, 0) →
    totals jobs made.span.upto made.entries 0 counted ≡ map (cover made jobs) (range_with_len 0 count)
all_left made jobs count counted is = ap (totals jobs made.span.upto made.entries 0) is ∙ totals_new made jobs count 0

-- after the last entry, nothing is left
pub none_left :
    (jobs : List JobParts) (upto number : ℕ) (counted : List (ℕ × ℕ)) → totals jobs upto [] number counted ≡ seconds_counted counted
none_left jobs upto number [] = refl
none_left jobs upto number (one ∷ more) =
    let none = tally_none (may_start jobs [] number) one.0 upto (λ s low high. refl) in
    let here : one.1 + tally (may_start jobs [] number) one.0 upto ≡ one.1 = omega (arith, none) in
    λ k. here k ∷ none_left jobs upto (number + 1) more k

neither : (is : Bool) → ((is && false) || false) ≡ false
neither true = refl
neither false = refl

-- before the times of all entries nothing may start
none_before :
    (jobs : List JobParts) (later : List (ℕ × ℕ)) (second number s : ℕ) → AreFrom second later → s < second →
    may_start jobs later number s ≡ false
none_before jobs [] second number s from lt = refl
none_before jobs (entry ∷ later) second number s from lt =
    let both = and_parts (nat_le second entry.0) (list_all (λ other. nat_le second other.0) later) from in
    let low : second ≤ entry.0 = leb-true second entry.0 both.0 in
    let rest = none_before jobs later second number s both.1 lt in
    let here : nat_le entry.0 s ≡ false = grind (arith, nat_tests) in
    rw (here, rest) (neither (entry.1 == number))

-- an entry of a job with another number changes nothing
other_job :
    (jobs : List JobParts) (entry : ℕ × ℕ) (later : List (ℕ × ℕ)) (number s : ℕ) → (entry.1 == number) ≡ false →
    may_start jobs (entry ∷ later) number s ≡ may_start jobs later number s
other_job jobs entry later number s other = ap (λ is. (is && is_in_window jobs entry s) || may_start jobs later number s) other

-- an entry of a job counts by its window
own_job :
    (jobs : List JobParts) (entry : ℕ × ℕ) (later : List (ℕ × ℕ)) (number s : ℕ) → entry.1 ≡ number →
    may_start jobs (entry ∷ later) number s ≡ (is_in_window jobs entry s || may_start jobs later number s)
own_job jobs entry later number s own =
    let is : (entry.1 == number) ≡ true = grind (arith, nat_tests) in
    ap (λ is. (is && is_in_window jobs entry s) || may_start jobs later number s) is

-- an entry of an earlier job leaves these totals as they are
later_jobs :
    (jobs : List JobParts) (upto : ℕ) (entry : ℕ × ℕ) (later : List (ℕ × ℕ)) (number : ℕ) (counted : List (ℕ × ℕ)) →
    entry.1 < number → totals jobs upto later number counted ≡ totals jobs upto (entry ∷ later) number counted
later_jobs jobs upto entry later number [] lt = refl
later_jobs jobs upto entry later number (one ∷ more) lt =
    let other : (entry.1 == number) ≡ false = grind (arith, nat_tests) in
    let same = tally_same (may_start jobs later number) (may_start jobs (entry ∷ later) number) one.0 upto
    (λ s low high. sym (other_job jobs entry later number s other)) in
    λ k. (one.1 + same k) ∷ later_jobs jobs upto entry later (number + 1) more (omega arith) k

-- what a window adds to a job is what the entry had left
own_total :
    (jobs : List JobParts) (upto : ℕ) (entry : ℕ × ℕ) (later : List (ℕ × ℕ)) (latest number : ℕ) (one : ℕ × ℕ) →
    entry.1 ≡ number → latest ≡ latest_start (delay_of (slice_get jobs entry.1)) entry.0 → AreFrom entry.0 later →
    (with_window entry.0 latest upto one).1 + tally (may_start jobs later number) (with_window entry.0 latest upto one).0 upto
    ≡ one.1 + tally (may_start jobs (entry ∷ later) number) one.0 upto
own_total jobs upto entry later latest number one own late from =
    let all = with_one_window (may_start jobs (entry ∷ later) number) (may_start jobs later number) entry.0 latest one.0 upto
    (λ s lt. none_before jobs later entry.0 number s from lt)
    (λ s. own_job jobs entry later number s own
    ∙ ap (λ n. (nat_le entry.0 s && nat_le s n) || may_start jobs later number s) (sym late)) in
    omega (arith, all)

counted_step :
    (jobs : List JobParts) (upto : ℕ) (entry : ℕ × ℕ) (later : List (ℕ × ℕ)) (latest number place : ℕ) (counted : List (ℕ × ℕ)) →
    entry.1 ≡ number + place → latest ≡ latest_start (delay_of (slice_get jobs entry.1)) entry.0 → AreFrom entry.0 later →
    totals jobs upto later number (changed_at (with_window entry.0 latest upto) place counted)
    ≡ totals jobs upto (entry ∷ later) number counted
counted_step jobs upto entry later latest number place [] own late from = refl
counted_step jobs upto entry later latest number zero (one ∷ more) own late from =
    let here = own_total jobs upto entry later latest number one (omega arith) late from in
    λ k. here k ∷ later_jobs jobs upto entry later (number + 1) more (omega arith) k
counted_step jobs upto entry later latest number (suc place) (one ∷ more) own late from =
    let other : (entry.1 == number) ≡ false = grind (arith, nat_tests) in
    let same = tally_same (may_start jobs later number) (may_start jobs (entry ∷ later) number) one.0 upto
    (λ s low high. sym (other_job jobs entry later number s other)) in
    λ k. (one.1 + same k) ∷ counted_step jobs upto entry later latest (number + 1) place more (omega arith) late from k

rest_from : (entries : List (ℕ × ℕ)) (i : ℕ) (d : ℕ × ℕ) → i < length entries → drop i entries ≡ get_or entries i d ∷ drop (suc i) entries
rest_from [] i d lt = absurd (omega arith)
rest_from (entry ∷ entries) zero d lt = refl
rest_from (entry ∷ entries) (suc i) d lt = rest_from entries i d (omega arith)

in_order_from : (entries : List (ℕ × ℕ)) (i : ℕ) → AreInOrder entries → AreInOrder (drop i entries)
in_order_from [] zero all = all
in_order_from [] (suc i) all = all
in_order_from (entry ∷ entries) zero all = all
in_order_from (entry ∷ entries) (suc i) all = in_order_from entries i all.1

-- a turn of the loop: what is counted and left after it is what was counted and left before it
pub counted_more :
    (jobs : List JobParts) (upto : ℕ) (entries : List (ℕ × ℕ)) (i : ℕ) (entry : ℕ × ℕ) (counted : List (ℕ × ℕ)) →
    i < length entries → entry ≡ get_or entries i entry → AreInOrder entries →
    totals jobs upto (drop (i + 1) entries) 0
    (changed_at (with_window entry.0 (latest_start (delay_of (slice_get jobs entry.1)) entry.0) upto) entry.1 counted)
    ≡ totals jobs upto (drop i entries) 0 counted
counted_more jobs upto entries i entry counted lt here order =
    let one : suc i ≡ i + 1 = omega arith in
    let rest : drop i entries ≡ entry ∷ drop (i + 1) entries =
    rest_from entries i entry lt ∙ ap (λ k. get_or entries i entry ∷ drop k entries) one ∙ ap (λ e. e ∷ drop (i + 1) entries) (sym here) in
    let later = subst AreInOrder rest (in_order_from entries i order) in
    counted_step jobs upto entry (drop (i + 1) entries) _ 0 entry.1 counted (omega arith) refl later.0
    ∙ ap (λ left. totals jobs upto left 0 counted) (sym rest)

-- past the end of a list there is nothing to change
pub changed_past :
    (change : ℕ × ℕ → ℕ × ℕ) (place : ℕ) (xs : List (ℕ × ℕ)) → length xs ≤ place → xs ≡ changed_at change place xs
changed_past change place [] past = refl
changed_past change zero (x ∷ xs) past = absurd (omega arith)
changed_past change (suc place) (x ∷ xs) past = ap (λ (ys : List (ℕ × ℕ)). x ∷ ys) (changed_past change place xs (omega arith))

-- within it, what is there is changed
pub changed_within :
    (change : ℕ × ℕ → ℕ × ℕ) (place : ℕ) (xs : List (ℕ × ℕ)) (x y : ℕ × ℕ) → place < length xs → x ≡ get_or xs place x →
    y ≡ change x → slice_set xs place y ≡ changed_at change place xs
changed_within change place [] x y within here is = absurd (omega arith)
changed_within change zero (z ∷ zs) x y within here is = (λ k. (is ∙ ap change here) k ∷ zs)
changed_within change (suc place) (z ∷ zs) x y within here is =
    ap (λ (ys : List (ℕ × ℕ)). z ∷ ys) (changed_within change place zs x y (omega arith) here is)

length_changed :
    (change : ℕ × ℕ → ℕ × ℕ) (place : ℕ) (xs : List (ℕ × ℕ)) → length (changed_at change place xs) ≡ length xs
length_changed change place [] = refl
length_changed change zero (x ∷ xs) = refl
length_changed change (suc place) (x ∷ xs) = ap suc (length_changed change place xs)

-- a list that is written over as a whole
pub written_over :
    (change : ℕ × ℕ → ℕ × ℕ) (place len : ℕ) (new old : List (ℕ × ℕ)) → length old ≡ len → new ≡ changed_at change place old →
    take len (new ++ drop (length new) old) ≡ changed_at change place old
written_over change place len new old all is =
    let same : length new ≡ length old = ap length is ∙ length_changed change place old in
    ap (λ rest. take len (new ++ rest)) (drop_all (length new) old (omega arith)) ∙ ap (take len) (append-nil new)
    ∙ take_all len new (omega arith) ∙ is
