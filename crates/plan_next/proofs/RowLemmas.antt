-- Starts in a row of a clock, from what the clock shows.
-- For `first_in_stretch` and `first_hope`. `found_in_row` is hard: the first second that counts and matches, moved
-- back, is the first start, and a start that a gap skipped is made up for at the row's second.
use Rattle.std.proofs.Common.{◌≡◌, ℕ, ◌+◌, ◌-◌, ◌<◌, ◌≤◌, zero, suc, ℤ, pos, neg_ℤ, ◌+ℤ◌, ◌<ℤ◌, ◌≤ℤ◌, int_lt, Bool, true, false, not, ◌&&◌, ◌==◌, if◌then◌else◌, max, Option, None, Some, inl, inr, refl, sym, ap, ◌∙◌, arith}
use Rattle.std.specs.List.{list_any, range_with_len}
use Rattle.std.specs.Option.{option_map}
use Rattle.std.proofs.lemmas.Bool.{cases_lt, eqb-true, eq-eqb, or_left, or_right}
use Rattle.std.proofs.lemmas.Bool.Decides.{nat_tests}
use Rattle.std.proofs.lemmas.Int.{by_lt_z, ints}
use Rattle.plan_clock.specs.declared.row.Row.{Row}
use Rattle.plan_clock.specs.Rows.{due, is_bounded, is_repeated, most_offset, natural, shown, unshown}
use Rattle.plan_next.specs.Starts.{first_counted, passes, some_between, starts_in, NoneIn, IsFirstIn}

choose : (b x y v : Bool) → (b ≡ true → x ≡ v) → (b ≡ false → y ≡ v) → (if b then x else y) ≡ v
choose b x y v given given₂ = grind (arith, nat_tests)

unless_no : (a x : Bool) → (a ≡ false → x ≡ false) → (not a && x) ≡ false
unless_no a x given = grind (arith, nat_tests)

unless_yes : (a x : Bool) → a ≡ false → x ≡ true → (not a && x) ≡ true
unless_yes a x fresh holds = rw (fresh, holds) refl

passes-no : (test : ℕ → Bool) (z : ℤ) → ((m : ℕ) → z ≡ pos m → test m ≡ false) → passes test z ≡ false
passes-no test z given = grind (arith, nat_tests)

passes-holds : (test : ℕ → Bool) (z : ℤ) (m : ℕ) → z ≡ pos m → test m ≡ true → passes test z ≡ true
passes-holds test z m is holds = ap (passes test) is ∙ holds

range_no : (test : ℕ → Bool) (a n : ℕ) → NoneIn test a (a + n) → list_any test (range_with_len a n) ≡ false
range_no test a zero none = refl
range_no test a (suc n) none =
    let here : test a ≡ false = none a (omega arith) (omega arith) in
    rw here (range_no test (a + 1) n (λ k low high. none k (omega arith) (omega arith)))

range_yes : (test : ℕ → Bool) (a n m : ℕ) → a ≤ m → m < a + n → test m ≡ true → list_any test (range_with_len a n) ≡ true
range_yes test a zero m low high is = absurd (omega arith)
range_yes test a (suc n) m low high is =
    elim (cases_lt a m) [
      | inl before ↦ or_right (test a) _ (range_yes test (a + 1) n m (omega arith) (omega arith) is)
      | inr after ↦ (let same : m ≡ a = omega arith in or_left (test a) _ (ap test (sym same) ∙ is))
    ]

-- what `natural` is, in a form that `omega` reads
pub natural-above : (z : ℤ) → z ≤ℤ pos (natural z)
natural-above z = grind (arith, nat_tests)

pub natural-is : (z : ℤ) → pos 0 ≤ℤ z → pos (natural z) ≡ z
natural-is z given = grind (arith, nat_tests)

pub natural-some : (z : ℤ) → 0 < natural z → pos (natural z) ≡ z
natural-some z given = grind (arith, nat_tests)

natural-le : (z : ℤ) (m : ℕ) → z ≤ℤ pos m → natural z ≤ m
natural-le z m given = grind (arith, nat_tests)

some_between-no :
    (test : ℕ → Bool) (a b : ℤ) → ((m : ℕ) → a ≤ℤ pos m → pos m ≤ℤ b → test m ≡ false) → some_between test a b ≡ false
unfolding some_between
some_between-no test a b none = grind (arith, nat_tests, natural-above, natural-some, range_no, ints)

some_between-holds :
    (test : ℕ → Bool) (a b : ℤ) (m : ℕ) → a ≤ℤ pos m → pos m ≤ℤ b → test m ≡ true → some_between test a b ≡ true
unfolding some_between
some_between-holds test a b m low high is =
    let le = natural-le a m low in
    let whole = natural-is (b +ℤ pos 1) (omega (arith, ints)) in
    range_yes test (natural a) (natural (b +ℤ pos 1) - natural a) m le (omega (arith, ints)) is

lt_not : (a b : ℤ) → int_lt a b ≡ false → b ≤ℤ a
lt_not a b h = grind (arith, ints)

not_lt : (a b : ℤ) → b ≤ℤ a → int_lt a b ≡ false
not_lt a b h = grind (arith, ints)

-- the first second that counts, at the row's second and after it
counted_here : (row : Row) (from : ℕ) → from ≡ row.second → first_counted row true from ≡ natural (due row)
counted_here row from is = rw (eq-eqb from row.second is) refl

counted_le : (row : Row) (from m : ℕ) → due row ≤ℤ pos m → shown row from ≤ℤ pos m → first_counted row true from ≤ m
counted_le row from m low high = grind (arith, nat_tests)

-- if no second that counts and is shown by then matches, n is no start
pub reach-none :
    (row : Row) (heeds : Bool) (test : ℕ → Bool) (from n low : ℕ) → row.second ≤ from → from ≤ n → low ≡ first_counted row heeds from →
    ((m : ℕ) → low ≤ m → pos m ≤ℤ shown row n → test m ≡ false) → starts_in row heeds test n ≡ false
unfolding starts_in
reach-none row false test from n low begun after is none = grind (arith, nat_tests, passes-no, natural-le, ints)
reach-none row true test from n low begun after is none = grind (arith, nat_tests, unless_no, lt_not, choose, eqb-true, counted_here, some_between-no, natural-le, passes-no, counted_le, ints)

-- a second is a start if what it shows matches
shown_starts :
    (row : Row) (heeds : Bool) (test : ℕ → Bool) (n m : ℕ) → shown row n ≡ pos m → (heeds ≡ true → due row ≤ℤ pos m) → test m ≡ true →
    starts_in row heeds test n ≡ true
unfolding starts_in
shown_starts row false test n m is fresh holds = passes-holds test (shown row n) m is holds
shown_starts row true test n m is fresh holds =
    let late = fresh refl in
    unless_yes (is_repeated row n) _ (not_lt (shown row n) (due row) (omega (arith, ints)))
    (choose (n == row.second) _ _ true
    (λ here. some_between-holds test (due row) (shown row n) m late (omega (arith, ints)) holds)
    (λ away. passes-holds test (shown row n) m is holds))

-- and so is the row's second, if a time that the gap skipped matches
made_up_starts :
    (row : Row) (test : ℕ → Bool) (n m : ℕ) → n ≡ row.second → due row ≤ℤ pos m → pos m ≤ℤ shown row n → test m ≡ true →
    starts_in row true test n ≡ true
unfolding starts_in
made_up_starts row test n m is low high holds =
    unless_yes (is_repeated row n) _ (not_lt (shown row n) (due row) (omega (arith, ints)))
    (choose (n == row.second) _ _ true
    (λ here. some_between-holds test (due row) (shown row n) m low high holds)
    (λ away. (let here = eq-eqb n row.second is in cc)))

-- a match that is shown before `from` was skipped by the gap with which the row begins there
record IsMadeUp (row : Row) (heeds : Bool) (from m : ℕ) : Type 0 where
  heeded : heeds ≡ true
  begun : from ≡ row.second
  counts : due row ≤ℤ pos m

is_made_up :
    (row : Row) (heeds : Bool) (from m low : ℕ) → low ≡ first_counted row heeds from → low ≤ m → pos m <ℤ shown row from →
    IsMadeUp row heeds from m
is_made_up row heeds from m low given given₂ given₃ = grind (arith, nat_tests)

counts : (row : Row) (heeds : Bool) (from m low : ℕ) → low ≡ first_counted row heeds from → low ≤ m → heeds ≡ true → due row ≤ℤ pos m
counts row heeds from m low given given₂ given₃ = grind (arith, nat_tests)

-- the first match that counts, as the second that shows it, is the first start
pub found_in_row :
    (row : Row) (heeds : Bool) (test : ℕ → Bool) (from upto low high : ℕ) (answer : Option ℕ) → row.second ≤ from → from < upto →
    low ≡ first_counted row heeds from → high ≤ natural (shown row upto) →
    ((m : ℕ) → high ≤ m → pos m <ℤ shown row upto → test m ≡ false) → IsFirstIn test low high answer →
    IsFirstIn (starts_in row heeds test) from upto (option_map (λ m. max (natural (unshown row m)) from) answer)
found_in_row row heeds test from upto low high None begun part is within beyond none =
    λ n after before.
    reach-none row heeds test from n low begun after is
    (λ m counted seen. elim (cases_lt m high) [
      | inl lower ↦ none m counted lower
      | inr higher ↦ beyond m higher (omega (arith, ints))
    ])
found_in_row row heeds test from upto low high (Some m) begun part is within beyond (counted, lower, holds, none) =
    let n = natural (unshown row m) in
    let whole = natural-some (shown row upto) in
    let shown_before : pos m <ℤ shown row upto = omega (arith, ints) in
    by_lt_z (pos m) (shown row from)
    (λ before.
    let made = is_made_up row heeds from m low is counted before in
    let le = natural-le (unshown row m) from (omega (arith, ints)) in
    let here : max n from ≡ from = omega arith in
    let yields : starts_in row heeds test from ≡ true = rw made.heeded
    (made_up_starts row test from m made.begun made.counts (omega (arith, ints)) holds) in
    rw here (omega arith, part, yields, λ k low high. absurd (omega arith)))
    (λ after.
    let back = natural-is (unshown row m) (omega (arith, ints)) in
    let shows : shown row n ≡ pos m = omega (arith, ints) in
    let here : max n from ≡ n = omega (arith, ints) in
    let yields : starts_in row heeds test n ≡ true = shown_starts row heeds test n m shows (counts row heeds from m low is counted) holds in
    rw here (
      omega (arith, ints),
      omega (arith, ints),
      yields,
      λ k after_from before_it. reach-none row heeds test from k low begun after_from is (λ j over under. none j over (omega (
        arith,
        ints,
      ))),
    ))

-- both offsets are at most 26 hours from UTC
record IsNear (row : Row) : Type 0 where
  before_from : neg_ℤ (pos most_offset) ≤ℤ row.before
  offset_from : neg_ℤ (pos most_offset) ≤ℤ row.offset
  offset_to : row.offset ≤ℤ pos most_offset

near : (row : Row) → is_bounded row ≡ true → IsNear row
near row bounded = grind (arith, nat_tests)

-- if nothing within 26 hours matches, n is no start
pub far-none :
    (row : Row) (heeds : Bool) (test : ℕ → Bool) (n : ℕ) → is_bounded row ≡ true →
    ((m : ℕ) → n ≤ m + most_offset → m ≤ n + most_offset → test m ≡ false) → starts_in row heeds test n ≡ false
unfolding starts_in
far-none row false test n bounded none = grind (arith, nat_tests, near, passes-no, ints)
far-none row true test n bounded none = grind (arith, nat_tests, near, unless_no, choose, eqb-true, some_between-no, ints, passes-no)

-- if the row's change is heeded, a start in it isn't repeated
fresh_start : (row : Row) (heeds : Bool) (test : ℕ → Bool) (n : ℕ) → starts_in row heeds test n ≡ true → heeds ≡ true →
    due row ≤ℤ shown row n
unfolding starts_in
fresh_start row heeds test n given given₂ = grind (arith, nat_tests)

-- after the row's second, times that aren't repeated start exactly if what is shown matches
plain_in_row :
    (row : Row) (heeds : Bool) (test : ℕ → Bool) (n : ℕ) → row.second < n → (heeds ≡ true → due row ≤ℤ shown row n) →
    starts_in row heeds test n ≡ passes test (shown row n)
unfolding starts_in
plain_in_row row heeds test n given given₂ = grind (arith, nat_tests)

-- what a start after the row's second shows
passes-is : (test : ℕ → Bool) (z : ℤ) → passes test z ≡ true → pos (natural z) ≡ z
passes-is test z given = grind (arith, nat_tests)

-- from such a start on, the starts are the matches, up to the end of the row
pub plain_from :
    (row : Row) (heeds : Bool) (test : ℕ → Bool) (start k : ℕ) → row.second < start → starts_in row heeds test start ≡ true →
    starts_in row heeds test (start + k) ≡ test (natural (shown row start) + k)
plain_from row heeds test start k after starts = grind (arith, nat_tests, fresh_start, plain_in_row, passes-is, ints)
