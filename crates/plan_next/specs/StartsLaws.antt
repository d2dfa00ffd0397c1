-- Laws about the numbers of a range that pass a test, and about the first of them.
use Rattle.std.proofs.Common.{◌≡◌, ℕ, zero, suc, ◌+◌, ◌-◌, ◌<◌, ◌≤◌, Bool, true, false, [], ◌∷◌, ◌++◌, filter, Option, Some, None, refl, ap, ◌∙◌, arith}
use Rattle.std.specs.Prelude.{slice_get}
use Rattle.std.specs.List.{range_with_len}
use Rattle.std.proofs.lemmas.List.Elements.{filter-append}
use Rattle.plan_next.specs.Starts.{NoneIn, IsLeastIn, IsFirstIn, passing}

range-append : (a m n : ℕ) → range_with_len a (m + n) ≡ range_with_len a m ++ range_with_len (a + m) n
range-append a zero n =
    let none : 0 + n ≡ n = omega arith in
    let here : a + 0 ≡ a = omega arith in
    rw (none, here) refl
range-append a (suc m) n =
    let more : suc m + n ≡ suc (m + n) = omega arith in
    let place : a + suc m ≡ a + 1 + m = omega arith in
    rw (more, place) (ap (λ xs. a ∷ xs) (range-append (a + 1) m n))

none_of_range : (test : ℕ → Bool) (a n : ℕ) → NoneIn test a (a + n) → filter test (range_with_len a n) ≡ []
none_of_range test a zero none = refl
none_of_range test a (suc n) none =
    let here : test a ≡ false = none a (omega arith) (omega arith) in
    rw here (none_of_range test (a + 1) n (λ k low high. none k (omega arith) (omega arith)))

-- a range is cut in two
pub passing-append : (test : ℕ → Bool) (a b c : ℕ) → a ≤ b → b ≤ c → passing test a c ≡ passing test a b ++ passing test b c
unfolding passing
passing-append test a b c low high =
    let sum : c - a ≡ b - a + (c - b) = omega arith in
    let place : a + (b - a) ≡ b = omega arith in
    let cut : range_with_len a (c - a) ≡ range_with_len a (b - a) ++ range_with_len b (c - b) = rw sum
    (range-append a (b - a) (c - b) ∙ (rw place refl)) in
    ap (filter test) cut ∙ filter-append test (range_with_len a (b - a)) (range_with_len b (c - b))

-- if no number passes
pub passing-none : (test : ℕ → Bool) (a b : ℕ) → NoneIn test a b → passing test a b ≡ []
unfolding passing
passing-none test a b none =
    none_of_range test a (b - a) (λ k low high. none k low (omega arith))

-- if the first number of the range passes
passing-here : (test : ℕ → Bool) (a b : ℕ) → a < b → test a ≡ true → passing test a b ≡ a ∷ passing test (a + 1) b
unfolding passing
passing-here test a b lt is =
    let more : b - a ≡ suc (b - (a + 1)) = omega arith in
    rw (more, is) refl

-- if the first number that passes is known
pub passing-least : (test : ℕ → Bool) (a b n : ℕ) → IsLeastIn test a b n → passing test a b ≡ n ∷ passing test (n + 1) b
passing-least test a b n (low, high, is, none) =
    passing-append test a n b low (omega arith)
    ∙ ap (λ xs. xs ++ passing test n b) (passing-none test a n none)
    ∙ passing-here test n b high is

-- the first number that passes is the first of the list
pub passing-first : (test : ℕ → Bool) (a b : ℕ) (answer : Option ℕ) → IsFirstIn test a b answer → answer ≡ slice_get (passing test a b) 0
passing-first test a b None none = rw (passing-none test a b none) refl
passing-first test a b (Some n) least = rw (passing-least test a b n least) refl
