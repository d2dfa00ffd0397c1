-- The local times of a table in the order of their places: neighbours are enough there.
use Rattle.std.proofs.Common.{◌≡◌, ℕ, suc, ◌+◌, ◌*◌, ◌/◌, ◌%◌, ◌≤◌, Bool, true, false, List, [], ◌∷◌, map, inl, inr, refl, ap, sym, ◌∙◌, arith, IsPermutation}
use Rattle.std.specs.Prelude.{◌&&◌, filter, not, nat_le, nat_eq, IsTrue}
use Rattle.std.specs.List.{flat_map, list_all, list_any}
use Rattle.std.specs.List.Sorted.{IsSorted, IsNonDecreasingBy}
use Rattle.std.specs.Ordering.{nat_cmp}
use Rattle.std.proofs.lemmas.Bool.{cases_Bool, and_parts, and_from, leb-true, or_parts, or_from, eqb-true, eq-eqb, not-false, not_from_true}
use Rattle.std.proofs.lemmas.List.Sorted.{IsNonDecreasingBy-from_sort, IsPermutation-map, list_any-IsPermutation}
use Rattle.agenda_table.specs.Dates.{falls_within, is_put_back}
use Rattle.agenda_table.specs.Keys.{falls_among, key_of, keys_of, second_of}
use Rattle.agenda_table.proofs.DateLemmas.{Ascend, IsAfter, falls_same}

-- the time and the date at the place of a time
second_back : (a n : ℕ) → n ≤ 32503680000 → second_of (a * 34359738368 + n) ≡ n
second_back a n years = omega (arith, years)

date_back : (a n : ℕ) → n ≤ 32503680000 → (a * 34359738368 + n) / 34359738368 ≡ a
date_back a n years = omega (arith, years)

-- whether a place isn't that of a time
is_odd : (shown : ℕ → ℕ) → (key : ℕ) → Bool
is_odd shown key =
    not (nat_eq (key / 34359738368) (shown (second_of key) / 86400) && nat_eq (key % 34359738368) (second_of key))

not_odd : (shown : ℕ → ℕ) (n : ℕ) → n ≤ 32503680000 → is_odd shown (key_of (shown n) n) ≡ false
unfolding is_odd
not_odd shown n years =
    let a = shown n / 86400 in
    let second = second_back a n years in
    let date : (a * 34359738368 + n) / 34359738368 ≡ shown (second_of (a * 34359738368 + n)) / 86400 =
    date_back a n years ∙ ap (λ (k : ℕ). shown k / 86400) (sym second) in
    let rest : (a * 34359738368 + n) % 34359738368 ≡ second_of (a * 34359738368 + n) = omega (arith, years) in
    not_from_true _ (and_from _ _ (eq-eqb _ _ date) (eq-eqb _ _ rest))

-- the places of local times: the times at them
seconds_back :
    (shown : ℕ → ℕ) (local : ℕ → Bool) (times : List ℕ) → IsTrue (list_all (λ n. nat_le n 32503680000) times) →
    map second_of (flat_map (keys_of shown local) times) ≡ filter local times
seconds_back shown local [] years = refl
seconds_back shown local (n ∷ times) years =
    let (here, later) = and_parts (nat_le n 32503680000) (list_all (λ m. nat_le m 32503680000) times) years in
    let second = second_back (shown n / 86400) n (leb-true n 32503680000 here) in
    let rest = seconds_back shown local times later in
    elim (cases_Bool (local n)) [
      | inl is ↦ rw is (λ i. second i ∷ rest i)
      | inr is ↦ rw is rest
    ]

none_odd :
    (shown : ℕ → ℕ) (local : ℕ → Bool) (times : List ℕ) → IsTrue (list_all (λ n. nat_le n 32503680000) times) →
    list_any (is_odd shown) (flat_map (keys_of shown local) times) ≡ false
none_odd shown local [] years = refl
none_odd shown local (n ∷ times) years =
    let (here, later) = and_parts (nat_le n 32503680000) (list_all (λ m. nat_le m 32503680000) times) years in
    let odd = not_odd shown n (leb-true n 32503680000 here) in
    let rest = none_odd shown local times later in
    elim (cases_Bool (local n)) [
      | inl is ↦ rw is (or_from _ _ odd rest)
      | inr is ↦ rw is rest
    ]

-- a place that is that of a time
IsPlace : (shown : ℕ → ℕ) → (key : ℕ) → Type 0
IsPlace shown key = (key / 34359738368 ≡ shown (second_of key) / 86400) × (key % 34359738368 ≡ second_of key)

place_from : (shown : ℕ → ℕ) (key : ℕ) → is_odd shown key ≡ false → IsPlace shown key
unfolding is_odd IsPlace
place_from shown key odd =
    let first = nat_eq (key / 34359738368) (shown (second_of key) / 86400) in
    let second = nat_eq (key % 34359738368) (second_of key) in
    let both : first ≡ true × second ≡ true = and_parts first second (not-false (first && second) odd) in
    (eqb-true (key / 34359738368) (shown (second_of key) / 86400) both.0, eqb-true (key % 34359738368) (second_of key) both.1)

-- places that ascend are those of times that ascend
is_after :
    (shown : ℕ → ℕ) (key next : ℕ) → key ≤ next → is_odd shown key ≡ false → is_odd shown next ≡ false →
    IsAfter shown (second_of key) (second_of next)
unfolding IsPlace
is_after shown key next le odd odd_next =
    let (date, second) = place_from shown key odd in
    let (next_date, next_second) = place_from shown next odd_next in
    (omega (arith, date, next_date, le), λ same. omega (arith, date, second, next_date, next_second, le, same))

ascend_from :
    (shown : ℕ → ℕ) (key : ℕ) (keys : List ℕ) → IsNonDecreasingBy (λ (n : ℕ). n) (key ∷ keys) → list_any (is_odd shown) (key ∷ keys) ≡ false →
    Ascend shown (second_of key) (map second_of keys)
ascend_from shown key [] up odd = tt
ascend_from shown key (next ∷ keys) up odd =
    let (here, later) = or_parts (is_odd shown key) (list_any (is_odd shown) (next ∷ keys)) odd in
    let (there, more) = or_parts (is_odd shown next) (list_any (is_odd shown) keys) later in (
      is_after shown key next (up 0 1 0 (omega arith) (omega arith)) here there,
      ascend_from shown next keys (λ i j d le lt. up (suc i) (suc j) d (omega arith) (omega arith)) later,
    )

within_same :
    (shown : ℕ → ℕ) (date : ℕ) (xs ys : List ℕ) → IsPermutation xs ys → falls_within shown xs date ≡ falls_within shown ys date
within_same shown date xs ys same =
    list_any-IsPermutation (λ (n : ℕ). list_any (is_put_back shown date n) xs) xs ys same
    ∙ (λ i. list_any (λ (n : ℕ). list_any-IsPermutation (is_put_back shown date n) xs ys same i) ys)

among_same :
    (shown : ℕ → ℕ) (date : ℕ) (sorted : List ℕ) → IsNonDecreasingBy (λ (n : ℕ). n) sorted → list_any (is_odd shown) sorted ≡ false →
    falls_among shown date (map second_of sorted) ≡ falls_within shown (map second_of sorted) date
among_same shown date [] up odd = refl
among_same shown date (key ∷ keys) up odd =
    falls_same shown date (second_of key) (map second_of keys) (ascend_from shown key keys up odd)

-- the whole
pub sorted_same :
    (shown : ℕ → ℕ) (local : ℕ → Bool) (date : ℕ) (times sorted : List ℕ) → IsTrue (list_all (λ n. nat_le n 32503680000) times) →
    IsPermutation (flat_map (keys_of shown local) times) sorted → IsSorted nat_cmp sorted →
    falls_among shown date (map second_of sorted) ≡ falls_within shown (filter local times) date
sorted_same shown local date times sorted years same up =
    let keys : List ℕ = flat_map (keys_of shown local) times in
    let odd : list_any (is_odd shown) sorted ≡ false =
    sym (list_any-IsPermutation (is_odd shown) keys sorted same) ∙ none_odd shown local times years in
    among_same shown date sorted (IsNonDecreasingBy-from_sort (λ (n : ℕ). n) sorted up) odd
    ∙ sym (within_same shown date (map second_of keys) (map second_of sorted) (IsPermutation-map second_of keys sorted same))
    ∙ ap (λ (xs : List ℕ). falls_within shown xs date) (seconds_back shown local times years)
