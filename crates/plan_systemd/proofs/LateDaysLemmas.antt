-- The least order from a number on, and how many different orders come before a number.
use Rattle.std.proofs.Common.{◌≡◌, ℕ, ◌+◌, ◌≤◌, Bool, true, false, not, ◌&&◌, ◌||◌, ◌==◌, ◌⊎◌, inl, inr, nat_le, nat_lt, cond, List, [], ◌∷◌, fold, Option, Some, None, refl, subst, ap, ◌∙◌, arith}
use Rattle.std.proofs.lemmas.Bool.Decides.{nat_tests}
use Rattle.std.specs.List.{list_all, list_any}
use Rattle.plan_systemd.specs.LateDays.{least_by, rank}

-- ---- tests of all numbers of a list

fst : (a b : Bool) → (a && b) ≡ true → a ≡ true
fst true b is = refl
fst false b is = is

snd : (a b : Bool) → (a && b) ≡ true → b ≡ true
snd true b is = is
snd false b is = grind arith

both : (a b : Bool) → a ≡ true → b ≡ true → (a && b) ≡ true
both a b p q = grind arith

-- what two tests of all numbers say together
pub all_both :
    (p q r : ℕ → Bool) → ((x : ℕ) → p x ≡ true → q x ≡ true → r x ≡ true) → (xs : List ℕ) → list_all p xs ≡ true →
    list_all q xs ≡ true → list_all r xs ≡ true
all_both p q r so [] a b = refl
all_both p q r so (x ∷ xs) a b =
    both (r x) (list_all r xs) (so x (fst _ _ a) (fst _ _ b)) (all_both p q r so xs (snd _ _ a) (snd _ _ b))

-- a test that each number passes
pub all_pass : (p : ℕ → Bool) → ((x : ℕ) → p x ≡ true) → (xs : List ℕ) → list_all p xs ≡ true
all_pass p so [] = refl
all_pass p so (x ∷ xs) = both (p x) (list_all p xs) (so x) (all_pass p so xs)

-- a test that no number passes
pub none_pass : (p : ℕ → Bool) (xs : List ℕ) → list_all (λ x. not (p x)) xs ≡ true → list_any p xs ≡ false
none_pass p [] a = refl
none_pass p (x ∷ xs) a =
    let head : not (p x) ≡ true = fst (not (p x)) (list_all (λ x. not (p x)) xs) a in
    let tail : list_any p xs ≡ false = none_pass p xs (snd (not (p x)) (list_all (λ x. not (p x)) xs) a) in
    grind arith

passes_at :
    (p : ℕ → Bool) (n x : ℕ) (xs : List ℕ) (b : Bool) → (x == n) ≡ b → ((x == n) || list_any (λ x. x == n) xs) ≡ true →
    p n ≡ true → (list_any (λ x. x == n) xs ≡ true → list_any p xs ≡ true) → list_any p (x ∷ xs) ≡ true
passes_at p n x xs true same listed is rest = let e : x ≡ n = grind (arith, nat_tests) in grind arith
passes_at p n x xs false other listed is rest =
    let left : list_any (λ x. x == n) xs ≡ true = grind arith in
    let passes : list_any p xs ≡ true = rest left in
    grind arith

-- a number of the list that passes a test
pub some_passes : (p : ℕ → Bool) (n : ℕ) (xs : List ℕ) → list_any (λ x. x == n) xs ≡ true → p n ≡ true → list_any p xs ≡ true
some_passes p n [] listed is = listed
some_passes p n (x ∷ xs) listed is = passes_at p n x xs (x == n) refl listed is (λ left. some_passes p n xs left is)

-- ---- the least order from a number on

abbrev pub least_from : ℕ → Option ℕ → List ℕ → Option ℕ
least_from from least xs = fold (least_by from) least xs

-- an order is before the number, or at least the least one
abbrev pub is_beside : ℕ → Option ℕ → ℕ → Bool
is_beside from None x = nat_lt x from
is_beside from (Some least) x = nat_lt x from || nat_le least x

-- what was found first is no less than what was found later
abbrev NoLess : Option ℕ → Option ℕ → Type 0
NoLess None later = Unit {0}
NoLess (Some first) None = ⊥
NoLess (Some first) (Some later) = later ≤ first

NoLess-refl : (found : Option ℕ) → NoLess found found
NoLess-refl None = tt
NoLess-refl (Some first) = omega arith

NoLess-more : (from x : ℕ) (found later : Option ℕ) → NoLess (least_by from found x) later → NoLess found later × (is_beside from later x ≡ true)
NoLess-more from x None None less = grind (arith, nat_tests)
NoLess-more from x None (Some later) less = grind (arith, nat_tests)
NoLess-more from x (Some first) None less = grind (arith, nat_tests)
NoLess-more from x (Some first) (Some later) less = grind (arith, nat_tests)

least_below :
    (from : ℕ) (found : Option ℕ) (xs : List ℕ) →
    NoLess found (least_from from found xs) × (list_all (is_beside from (least_from from found xs)) xs ≡ true)
least_below from found [] = (NoLess-refl found, refl)
least_below from found (x ∷ xs) =
    let rest = least_below from (least_by from found x) xs in
    let more = NoLess-more from x found (least_from from (least_by from found x) xs) rest.0 in
    (more.0, both _ _ more.1 rest.1)

-- each order is before the number, or at least the least one
pub all_beside : (from : ℕ) (xs : List ℕ) → list_all (is_beside from (least_from from None xs)) xs ≡ true
all_beside from xs = (least_below from None xs).1

-- the least order is one of the orders from the number on
abbrev pub IsListed : ℕ → List ℕ → Option ℕ → Type 0
IsListed from xs None = Unit {0}
IsListed from xs (Some n) = (from ≤ n) × (list_any (λ x. x == n) xs ≡ true)

IsListed-more : (from x : ℕ) (xs : List ℕ) (found : Option ℕ) → IsListed from xs found → IsListed from (x ∷ xs) found
IsListed-more from x xs None listed = tt
IsListed-more from x xs (Some n) listed = (listed.0, grind (arith, listed.1))

IsListed-by :
    (from x : ℕ) (xs : List ℕ) (found later : Option ℕ) → ((later ≡ least_by from found x) ⊎ IsListed from xs later) →
    (later ≡ found) ⊎ IsListed from (x ∷ xs) later
IsListed-by from x xs found later (inr listed) = inr (IsListed-more from x xs later listed)
IsListed-by from x xs None None (inl is) = inl refl
IsListed-by from x xs None (Some n) (inl is) = inr (grind (arith, nat_tests))
IsListed-by from x xs (Some first) None (inl is) = inr tt
IsListed-by from x xs (Some first) (Some n) (inl is) = grind (arith, nat_tests)

least_listed :
    (from : ℕ) (found : Option ℕ) (xs : List ℕ) → (least_from from found xs ≡ found) ⊎ IsListed from xs (least_from from found xs)
least_listed from found [] = inl refl
least_listed from found (x ∷ xs) =
    IsListed-by from x xs found (least_from from (least_by from found x) xs) (least_listed from (least_by from found x) xs)

listed_unless : (from : ℕ) (xs : List ℕ) (found : Option ℕ) → ((found ≡ None) ⊎ IsListed from xs found) → IsListed from xs found
listed_unless from xs None is = tt
listed_unless from xs (Some n) (inl is) = absurd (cc)
listed_unless from xs (Some n) (inr listed) = listed

pub is_listed : (from : ℕ) (xs : List ℕ) → IsListed from xs (least_from from None xs)
is_listed from xs = listed_unless from xs (least_from from None xs) (least_listed from None xs)

-- ---- ranks

pub rank-zero : (xs : List ℕ) → rank 0 xs ≡ 0
rank-zero [] = refl
rank-zero (x ∷ xs) = let rest : rank 0 xs ≡ 0 = rank-zero xs in grind (arith, nat_tests)

-- where there is no order from one number to another, as many come before both
pub rank-gap :
    (from n : ℕ) (xs : List ℕ) → from ≤ n → list_all (λ x. nat_lt x from || nat_le n x) xs ≡ true → rank n xs ≡ rank from xs
rank-gap from n [] le gap = refl
rank-gap from n (x ∷ xs) le gap =
    let beside : ℕ → Bool = λ x. nat_lt x from || nat_le n x in
    let rest : rank n xs ≡ rank from xs = rank-gap from n xs le (snd (beside x) (list_all beside xs) gap) in
    let head : (nat_lt x from || nat_le n x) ≡ true = fst (beside x) (list_all beside xs) gap in
    let same : nat_lt x n ≡ nat_lt x from = grind (arith, nat_tests) in
    grind arith

-- one more comes before the next number, if this number is listed
pub rank-next : (n : ℕ) (xs : List ℕ) → rank (n + 1) xs ≡ rank n xs + cond (list_any (λ x. x == n) xs) 1 0
rank-next n [] = refl
rank-next n (x ∷ xs) =
    let rest : rank (n + 1) xs ≡ rank n xs + cond (list_any (λ x. x == n) xs) 1 0 = rank-next n xs in
    grind (arith, nat_tests)

-- ---- the next order

-- no order is left
pub none_left :
    (from : ℕ) (xs : List ℕ) → least_from from None xs ≡ None → list_all (λ x. nat_lt x from) xs ≡ true
none_left from xs is = subst (λ found. list_all (is_beside from found) xs ≡ true) is (all_beside from xs)

-- no order is between the number and the next order
next_beside :
    (from n : ℕ) (xs : List ℕ) → least_from from None xs ≡ Some n → list_all (λ x. nat_lt x from || nat_le n x) xs ≡ true
next_beside from n xs is = subst (λ found. list_all (is_beside from found) xs ≡ true) is (all_beside from xs)

-- the next order is listed, from the number on
pub next_listed :
    (from n : ℕ) (xs : List ℕ) → least_from from None xs ≡ Some n → (from ≤ n) × (list_any (λ x. x == n) xs ≡ true)
next_listed from n xs is = subst (IsListed from xs) is (is_listed from xs)

-- as many orders come before the next one as before the number
pub rank_of_next :
    (from n k : ℕ) (xs : List ℕ) → least_from from None xs ≡ Some n → rank from xs ≡ k → rank n xs ≡ k
rank_of_next from n k xs is before = rank-gap from n xs (next_listed from n xs is).0 (next_beside from n xs is) ∙ before

-- one more comes before what follows it
pub rank_after :
    (from n k : ℕ) (xs : List ℕ) → least_from from None xs ≡ Some n → rank from xs ≡ k → rank (n + 1) xs ≡ k + 1
rank_after from n k xs is before =
    let listed : list_any (λ x. x == n) xs ≡ true = (next_listed from n xs is).1 in
    let one : cond (list_any (λ x. x == n) xs) 1 0 ≡ 1 = let one_if : Bool → ℕ = λ b. cond b 1 0 in ap one_if listed in
    omega (arith, rank-next n xs, rank_of_next from n k xs is before, one)

-- if the next order fails a test, as all before it do, all before what follows it fail the test
pub fails_until :
    (test : ℕ → Bool) (from n : ℕ) (xs : List ℕ) → least_from from None xs ≡ Some n →
    list_all (λ x. nat_le from x || not (test x)) xs ≡ true → test n ≡ false →
    list_all (λ x. nat_le (n + 1) x || not (test x)) xs ≡ true
fails_until test from n xs is fail fails =
    all_both (λ x. nat_le from x || not (test x)) (λ x. nat_lt x from || nat_le n x) (λ x. nat_le (n + 1) x || not (test x))
    (λ x a b. fails_at test from n x a b fails) xs fail (next_beside from n xs is)
  where
    fails_at :
        (test : ℕ → Bool) (from n x : ℕ) → (nat_le from x || not (test x)) ≡ true → (nat_lt x from || nat_le n x) ≡ true →
        test n ≡ false → (nat_le (n + 1) x || not (test x)) ≡ true
    fails_at test from n x a b fails = grind (arith, nat_tests)

-- if no order is left, all fail the test
pub all_fail :
    (test : ℕ → Bool) (from : ℕ) (xs : List ℕ) → least_from from None xs ≡ None →
    list_all (λ x. nat_le from x || not (test x)) xs ≡ true → list_any test xs ≡ false
all_fail test from xs is fail =
    none_pass test xs
    (all_both (λ x. nat_le from x || not (test x)) (λ x. nat_lt x from) (λ x. not (test x)) (λ x a b. grind (arith, nat_tests))
    xs fail (none_left from xs is))
