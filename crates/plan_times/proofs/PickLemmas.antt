-- The seconds that show or skip a local time, one part of time after another.
-- For `second_of`, whose loop goes over the parts in which a clock has the same offset.
use Rattle.std.proofs.Common.{◌≡◌, ◌≢◌, ℕ, ◌+◌, ◌-◌, ◌<◌, ◌≤◌, Bool, true, false, List, Option, Some, None, IfSome, IfNone, ℤ, pos, ◌+ℤ◌, ap, sym, ◌∙◌, arith, inl, inr}
use Rattle.std.proofs.lemmas.Bool.Decides.{leb_tells}
use Rattle.std.proofs.lemmas.Int.{ints}
use Rattle.plan_clock.specs.declared.row.Change.{Change}
use Rattle.plan_clock.specs.declared.row.Row.{Row}
use Rattle.plan_clock.specs.Rows.{natural, row_at}
use Rattle.plan_times.specs.LocalTimes.{first_local, local_at, picked, Shows, Skips, IsPicked}

-- the answer is the only number of a part that has a property; None if no number of it has
abbrev pub IsOnlyIn : (ℕ → Type 0) → (from upto : ℕ) → Option ℕ → Type 0
IsOnlyIn P from upto None = (n : ℕ) → from ≤ n → n < upto → ¬ (P n)
IsOnlyIn P from upto (Some m) = (from ≤ m) × (m < upto) × P m × ((n : ℕ) → from ≤ n → n < upto → P n → n ≡ m)

-- in a part of time, what the clock shows goes with the seconds
pub record GoesOn (clock : List Change) (start from upto : ℕ) : Type 0 where
  pub some : from < upto
  pub same : (n : ℕ) → from ≤ n → n < upto → local_at clock n ≡ n + start

-- what the clock showed one second before a part
pub record IsBefore (clock : List Change) (local from before : ℕ) : Type 0 where
  pub none : from ≡ 0 → before ≡ local
  pub some : 0 < from → before ≡ local_at clock (from - 1)

-- what is picked of the numbers before a part, and of those in it
pub pick_more :
    (latest : Bool) (P : ℕ → Type 0) (from upto : ℕ) (held found : Option ℕ) → from ≤ upto → IsPicked latest P from held →
    IsOnlyIn P from upto found → IsPicked latest P upto (picked latest held found)
pick_more true P from upto None None le have only = λ n lt p. elim (leb_tells from n) [
  | inl inside ↦ only n inside.1 lt p
  | inr below ↦ have n below.1 p
]
pick_more true P from upto (Some h) None le have only = (
  omega (arith, have.0),
  have.1,
  λ k after lt p. elim (leb_tells from k) [
    | inl inside ↦ only k inside.1 lt p
    | inr below ↦ have.2 k after below.1 p
  ],
)
pick_more true P from upto None (Some m) le have only = (
  only.1,
  only.2,
  λ k after lt p. (let same = only.3 k (omega (arith, only.0)) lt p in absurd (omega arith)),
)
pick_more true P from upto (Some h) (Some m) le have only = (
  only.1,
  only.2,
  λ k after lt p. (let same = only.3 k (omega (arith, only.0)) lt p in absurd (omega arith)),
)
pick_more false P from upto None None le have only = λ n lt p. elim (leb_tells from n) [
  | inl inside ↦ only n inside.1 lt p
  | inr below ↦ have n below.1 p
]
pick_more false P from upto None (Some m) le have only = (
  only.1,
  only.2,
  λ k lt p. elim (leb_tells from k) [
    | inl inside ↦ (let same = only.3 k inside.1 (omega (arith, only.1)) p in absurd (omega arith))
    | inr below ↦ have k below.1 p
  ],
)
pick_more false P from upto (Some h) None le have only = (omega (arith, have.0), have.1, have.2)
pick_more false P from upto (Some h) (Some m) le have only = (omega (arith, have.0), have.1, have.2)

-- the second of a part that shows a local time
pub shows_only :
    (clock : List Change) (local start from upto : ℕ) (found : Option ℕ) → GoesOn clock start from upto →
    IfSome found (λ n. (from ≤ n) × (n < upto) × (n + start ≡ local)) →
    IfNone found ((n : ℕ) → from ≤ n → n < upto → n + start ≢ local) → IsOnlyIn (Shows clock local) from upto found
shows_only clock local start from upto None goes some none = λ n low high shows. none n low high (sym (goes.same n low high) ∙ shows)
shows_only clock local start from upto (Some m) goes some none = (
  some.0,
  some.1,
  goes.same m some.0 some.1 ∙ some.2,
  λ n low high shows.
      (let here = sym (goes.same n low high) ∙ shows in
      let there : m + start ≡ local = some.2 in
      omega arith),
)

-- only the first second of a part can skip a local time
skips_first :
    (clock : List Change) (local start from upto n : ℕ) → GoesOn clock start from upto → from ≤ n → n < upto →
    Skips clock local n → n ≡ from
skips_first clock local start from upto n goes low high skips = elim (leb_tells n from) [
  | inl first ↦ (let le = first.1 in omega arith)
  | inr later ↦
      let after : from < n = later.1 in
      let here = goes.same n low high in
      let earlier = goes.same (n - 1) (omega arith) (omega arith) in
      let under = skips.1 in
      let over = skips.2 in
      absurd (omega arith)
]

-- the second of a part that skips a local time
pub skips_only :
    (clock : List Change) (local start from upto before : ℕ) (found : Option ℕ) → GoesOn clock start from upto →
    IsBefore clock local from before → IfSome found (λ n. (n ≡ from) × (before < local) × (local < from + start)) →
    IfNone found (before < local → ¬ (local < from + start)) → IsOnlyIn (Skips clock local) from upto found
skips_only clock local start from upto before None goes was some none = λ n low high skips.
    let first = skips_first clock local start from upto n goes low high skips in
    let here = goes.same from (omega arith) goes.some in
    let positive : 0 < from = omega (arith, skips.0) in
    let held = was.some positive in
    let under : local_at clock (from - 1) < local = rw (sym first) skips.1 in
    let over : local < local_at clock from = rw (sym first) skips.2 in
    none (omega arith) (omega arith)
skips_only clock local start from upto before (Some m) goes was some none =
    let is : m ≡ from = some.0 in
    let under : before < local = some.1 in
    let over : local < from + start = some.2 in
    let here = goes.same from (omega arith) goes.some in
    let positive : 0 < from = elim (leb_tells from 0) [
      | inl zero ↦ (let none_before = was.none (let le = zero.1 in omega arith) in absurd (omega arith))
      | inr later ↦ later.1
    ] in
    let held = was.some positive in (
      omega arith,
      rw is goes.some,
      rw is (
        positive,
        (let low : local_at clock (from - 1) < local = omega arith in low),
        (let high : local < local_at clock from =
            omega arith in high),
      ),
      λ n low high skips. skips_first clock local start from upto n goes low high skips ∙ sym is,
    )

-- the local time at a second, from that at second 0 of a clock with the same offset
pub shown_from : (n start : ℕ) (offset : ℤ) → pos start ≡ pos first_local +ℤ offset → natural (pos (n + first_local) +ℤ offset) ≡ n + start
shown_from n start offset is =
    let sum : pos (n + first_local) +ℤ offset ≡ pos (n + start) = omega (arith, ints) in
    ap natural sum

-- the parts in which the clock has the same row
pub goes_on :
    (clock : List Change) (start from upto : ℕ) (row : Row) → from < upto → row ≡ row_at clock from →
    ((n : ℕ) → from ≤ n → n < upto → row_at clock n ≡ row_at clock from) → pos start ≡ pos first_local +ℤ row.offset →
    GoesOn clock start from upto
goes_on clock start from upto row lt is same shown = record {
  some = lt;
  same = λ n low high.
      (let whole = same n low high ∙ sym is in
      ap (λ (r : Row). natural (pos (n + first_local) +ℤ r.offset)) whole ∙ shown_from n start row.offset shown);
}
