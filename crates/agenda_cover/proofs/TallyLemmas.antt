-- How many seconds pass a test, and how a window changes that.
use Rattle.std.proofs.Common.{◌≡◌, ℕ, zero, suc, ◌+◌, ◌-◌, ◌<◌, ◌≤◌, max, Bool, true, false, cond, ◌||◌, ◌&&◌, inl, inr, refl, ap, sym, ◌∙◌, arith}
use Rattle.std.specs.Prelude.{count_by, nat_le}
use Rattle.std.specs.List.{range_with_len}
use Rattle.std.proofs.lemmas.Bool.{cases_lt}
use Rattle.std.proofs.lemmas.Bool.Decides.{nat_tests}
use Rattle.std.proofs.lemmas.List.Sums.{sum_by-cons}
use Rattle.agenda_cover.specs.Counting.{end_of}
use Rattle.agenda_cover.specs.Cover.{tally}

count_next :
    (p : ℕ → Bool) (n a : ℕ) →
    count_by p (range_with_len a (suc n)) ≡ (cond (p a) 1 0) + count_by p (range_with_len (a + 1) n)
count_next p n a = sum_by-cons (λ x. cond (p x) 1 0) a (range_with_len (a + 1) n)

count_split :
    (p : ℕ → Bool) (n m k a b : ℕ) → k ≡ n + m → b ≡ a + n →
    count_by p (range_with_len a k) ≡ count_by p (range_with_len a n) + count_by p (range_with_len b m)
count_split p zero m k a b whole next =
    let e : k ≡ m = omega arith in
    let f : b ≡ a = omega arith in
    rw (e, f) (omega arith)
count_split p (suc n) m zero a b whole next = absurd (omega arith)
count_split p (suc n) m (suc k) a b whole next =
    let later = count_split p n m k (a + 1) b (omega arith) (omega arith) in
    omega (arith, later, count_next p n a, count_next p k a)

count_same :
    (p q : ℕ → Bool) (n a : ℕ) → ((s : ℕ) → a ≤ s → s < a + n → p s ≡ q s) →
    count_by p (range_with_len a n) ≡ count_by q (range_with_len a n)
count_same p q zero a same = refl
count_same p q (suc n) a same =
    let here : p a ≡ q a = same a (omega arith) (omega arith) in
    let later = count_same p q n (a + 1) (λ s low high. same s (omega arith) (omega arith)) in
    count_next p n a ∙ rw (here, later) refl ∙ sym (count_next q n a)

count_none :
    (p : ℕ → Bool) (n a : ℕ) → ((s : ℕ) → a ≤ s → s < a + n → p s ≡ false) → count_by p (range_with_len a n) ≡ 0
count_none p zero a none = refl
count_none p (suc n) a none =
    let here : p a ≡ false = none a (omega arith) (omega arith) in
    let later = count_none p n (a + 1) (λ s low high. none s (omega arith) (omega arith)) in
    count_next p n a ∙ rw (here, later) refl

count_each :
    (p : ℕ → Bool) (n a : ℕ) → ((s : ℕ) → a ≤ s → s < a + n → p s ≡ true) → count_by p (range_with_len a n) ≡ n
count_each p zero a each = refl
count_each p (suc n) a each =
    let here : p a ≡ true = each a (omega arith) (omega arith) in
    let later = count_each p n (a + 1) (λ s low high. each s (omega arith) (omega arith)) in
    count_next p n a ∙ rw (here, later) (omega arith)

pub tally_split :
    (p : ℕ → Bool) (from mid upto : ℕ) → from ≤ mid → mid ≤ upto → tally p from upto ≡ tally p from mid + tally p mid upto
unfolding tally
tally_split p from mid upto low high =
    count_split p (mid - from) (upto - mid) (upto - from) from mid (omega arith) (omega arith)

pub tally_same :
    (p q : ℕ → Bool) (from upto : ℕ) → ((s : ℕ) → from ≤ s → s < upto → p s ≡ q s) → tally p from upto ≡ tally q from upto
unfolding tally
tally_same p q from upto same = count_same p q (upto - from) from (λ s low high. same s low (omega arith))

pub tally_none :
    (p : ℕ → Bool) (from upto : ℕ) → ((s : ℕ) → from ≤ s → s < upto → p s ≡ false) → tally p from upto ≡ 0
unfolding tally
tally_none p from upto none = count_none p (upto - from) from (λ s low high. none s low (omega arith))

pub tally_each :
    (p : ℕ → Bool) (from upto : ℕ) → ((s : ℕ) → from ≤ s → s < upto → p s ≡ true) → tally p from upto ≡ upto - from
unfolding tally
tally_each p from upto each = count_each p (upto - from) from (λ s low high. each s low (omega arith))

-- a window that counts nothing more: it is before the reach, or after the span
nothing_more :
    (p q : ℕ → Bool) (second latest reach upto : ℕ) → ((s : ℕ) → s < second → q s ≡ false) →
    ((s : ℕ) → p s ≡ ((nat_le second s && nat_le s latest) || q s)) → end_of latest upto ≤ max second reach →
    tally p reach upto ≡ tally q (max reach (end_of latest upto)) upto
nothing_more p q second latest reach upto before is none =
    let end = end_of latest upto in
    let next = max reach end in
    let same : tally p reach upto ≡ tally q reach upto =
    tally_same p q reach upto (λ s low high.
    let out : (nat_le second s && nat_le s latest) ≡ false = grind (arith, nat_tests) in
    is s ∙ ap (λ b. b || q s) out) in
    elim (cases_lt upto next) [
      | inl past ↦
          let none_before = tally_none q reach upto (λ s low high. before s (omega arith)) in
          let none_after = tally_none q next upto (λ s low high. absurd (omega arith)) in
          omega (arith, same, none_before, none_after)
      | inr within ↦
          let split = tally_split q reach next upto (omega arith) within in
          let none_before = tally_none q reach next (λ s low high. before s (omega arith)) in
          omega (arith, same, split, none_before)
    ]

-- a window that counts something more
something_more :
    (p q : ℕ → Bool) (second latest reach upto : ℕ) → ((s : ℕ) → s < second → q s ≡ false) →
    ((s : ℕ) → p s ≡ ((nat_le second s && nat_le s latest) || q s)) → max second reach < end_of latest upto →
    tally p reach upto ≡ (end_of latest upto - max second reach) + tally q (max reach (end_of latest upto)) upto
something_more p q second latest reach upto before is some =
    let end = end_of latest upto in
    let start = max second reach in
    let next : max reach end ≡ end = omega arith in
    let none = tally_none p reach start (λ s low high.
    let out : (nat_le second s && nat_le s latest) ≡ false = grind (arith, nat_tests) in
    is s ∙ ap (λ b. b || q s) out ∙ before s (omega arith)) in
    let each = tally_each p start end (λ s low high.
    let within : (nat_le second s && nat_le s latest) ≡ true = grind (arith, nat_tests) in
    is s ∙ ap (λ b. b || q s) within) in
    let later = tally_same p q end upto (λ s low high.
    let out : (nat_le second s && nat_le s latest) ≡ false = grind (arith, nat_tests) in
    is s ∙ ap (λ b. b || q s) out) in
    let first = tally_split p reach start upto (omega arith) (omega arith) in
    let second_part = tally_split p start end upto (omega arith) (omega arith) in
    rw next (omega (arith, none, each, later, first, second_part))

-- the seconds from a reach on that pass a test: those that a window adds, and those of later windows that it leaves
pub with_one_window :
    (p q : ℕ → Bool) (second latest reach upto : ℕ) → ((s : ℕ) → s < second → q s ≡ false) →
    ((s : ℕ) → p s ≡ ((nat_le second s && nat_le s latest) || q s)) →
    tally p reach upto ≡ (end_of latest upto - max second reach) + tally q (max reach (end_of latest upto)) upto
with_one_window p q second latest reach upto before is = elim (cases_lt (max second reach) (end_of latest upto)) [
  | inl some ↦ something_more p q second latest reach upto before is some
  | inr none ↦
      let all = nothing_more p q second latest reach upto before is none in
      omega (arith, all)
]
