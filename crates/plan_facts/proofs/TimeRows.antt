-- Worked rows of times, as people type them: on Friday 2026-03-27, at 18:04:05 in Berlin (systemd.time(7); agenda).
-- They answer no goal of a function, but test `form_of`, `IsSince` and `IsUntil`. The form of a text is computed. Of the seconds of
-- a local time, the lemmas say that no other second counts.
use Rattle.std.proofs.Common.{◌≡◌, nat_le, ℕ, ◌+◌, ◌-◌, ◌<◌, ◌≤◌, Bool, true, false, List, [], ◌∷◌, map, replicate, codes, None, Some, Ok, Err, pos, ◌+ℤ◌, cond, refl, arith, inl, inr, sym, ◌∙◌}
use Rattle.std.proofs.lemmas.Bool.Decides.{leb_tells, nat_tests}
use Rattle.plan_clock.specs.declared.row.Change.{Change}
use Rattle.plan_clock.specs.Rows.{natural, row_after, row_at}
use Rattle.plan_sets.specs.Limits.{end_second}
use Rattle.plan_times.specs.Forms.{form_of}
use Rattle.plan_times.specs.LocalTimes.{first_local, local_at, IsSecondOf, Skips}
use Rattle.plan_times.specs.Times.{IsSince, IsUntil}
use Rattle.plan_times.specs.declared.fault.TimeFault.TheVariants.{BadTime}
use Rattle.plan_facts.proofs.OnTexts.{on_times}

-- 2026-03-29T01:00:00Z, when the clocks of Berlin go forward
abbrev forward : ℕ
forward = 1_774_746_000

-- 2026-10-25T01:00:00Z, when they go back
abbrev back : ℕ
back = 1_792_890_000

abbrev berlin : List Change
berlin =
    record { second = 0; offset = pos 3_600 }
    ∷ record { second = forward; offset = pos 7_200 }
    ∷ record { second = back; offset = pos 3_600 }
    ∷ []

-- Friday 2026-03-27T17:04:05Z
abbrev now : ℕ
now = 1_774_631_045

-- ---- the clocks of Berlin

-- what they show at a second
data Shown (n : ℕ) : Type 0 where
  winter : n < forward → local_at berlin n ≡ n + (first_local + 3_600) → Shown n
  summer : forward ≤ n → n < back → local_at berlin n ≡ n + (first_local + 7_200) → Shown n
  later : back ≤ n → local_at berlin n ≡ n + (first_local + 3_600) → Shown n

-- what they show, by whether each of the three changes is at or before a second
abbrev local_by : ℕ → (first after past : Bool) → ℕ
local_by n first after past =
    natural (pos (n + first_local) +ℤ (row_after berlin (cond first (1 + cond after (1 + cond past 1 0) 0) 0)).offset)

by_changes :
    (n : ℕ) (after past : Bool) → nat_le forward n ≡ after → nat_le back n ≡ past → local_at berlin n ≡ local_by n true after past
unfolding row_at
by_changes n after past after_is past_is =
    let first : nat_le 0 n ≡ true = grind (arith, nat_tests) in
    λ i. local_by n (first i) (after_is i) (past_is i)

shown : (n : ℕ) → Shown n
shown n = elim (leb_tells forward n) [
  | inr before ↦ winter before.1 (by_changes n false (nat_le back n) before.0 refl ∙ omega arith)
  | inl after ↦ elim (leb_tells back n) [
    | inr before ↦ summer after.1 before.1 (by_changes n true false after.0 before.0 ∙ omega arith)
    | inl past ↦ later past.1 (by_changes n true true after.0 past.0 ∙ omega arith)
  ]
]

-- a local time is skipped only in March
in_gap : (local k : ℕ) → Shown k → Shown (k - 1) → Skips berlin local k →
    (k ≡ forward) × (forward + (first_local + 3_600) ≤ local) × (local < forward + (first_local + 7_200))
in_gap local k (winter a i) (winter b j) (some, low, high) = absurd (omega arith)
in_gap local k (winter a i) (summer b c j) (some, low, high) = absurd (omega arith)
in_gap local k (winter a i) (later b j) (some, low, high) = absurd (omega arith)
in_gap local k (summer a b i) (winter c j) (some, low, high) = (omega arith, omega arith, omega arith)
in_gap local k (summer a b i) (summer c d j) (some, low, high) = absurd (omega arith)
in_gap local k (summer a b i) (later c j) (some, low, high) = absurd (omega arith)
in_gap local k (later a i) (winter b j) (some, low, high) = absurd (omega arith)
in_gap local k (later a i) (summer b c j) (some, low, high) = absurd (omega arith)
in_gap local k (later a i) (later b j) (some, low, high) = absurd (omega arith)

-- a local time that is shown isn't skipped
is_shown : (local n k : ℕ) → local_at berlin n ≡ local → Shown n → Skips berlin local k → ⊥
is_shown local n k is (winter a i) skips = let gap = in_gap local k (shown k) (shown (k - 1)) skips in omega (arith, gap.1)
is_shown local n k is (summer a b i) skips = let gap = in_gap local k (shown k) (shown (k - 1)) skips in omega (arith, gap.2)
is_shown local n k is (later a i) skips = let gap = in_gap local k (shown k) (shown (k - 1)) skips in omega (arith, gap.2)

-- two seconds show the same local time only if the clocks go back between them
is_later : (n k : ℕ) → n < k → local_at berlin n ≡ local_at berlin k → Shown n → Shown k → (n < back) × (back ≤ k) × (k ≡ n + 3_600)
is_later n k lt same (winter a i) (winter b j) = absurd (omega arith)
is_later n k lt same (winter a i) (summer b c j) = absurd (omega arith)
is_later n k lt same (winter a i) (later b j) = absurd (omega arith)
is_later n k lt same (summer a b i) (winter c j) = absurd (omega arith)
is_later n k lt same (summer a b i) (summer c d j) = absurd (omega arith)
is_later n k lt same (summer a b i) (later c j) = (omega arith, omega arith, omega arith)
is_later n k lt same (later a i) (winter b j) = absurd (omega arith)
is_later n k lt same (later a i) (summer b c j) = absurd (omega arith)
is_later n k lt same (later a i) (later b j) = absurd (omega arith)

-- the first second that shows a local time: the clocks don't go back in the hour before it
first_shown :
    (local n : ℕ) → n ≤ end_second → local_at berlin n ≡ local → (back ≤ n → back + 3_600 ≤ n) → IsSecondOf false berlin local (Ok n)
first_shown local n inside is usual = (
  Some n,
  None,
  (
    omega arith,
    is,
    λ k earlier same.
        (let pair = is_later k n earlier (same ∙ sym is) (shown k) (shown n) in
        let far = usual pair.1 in
        omega (arith, pair.0, pair.2)),
  ),
  λ k within skips. is_shown local n k is (shown n) skips,
  refl,
)

-- the last second that shows a local time: the clocks don't go back in the hour after it
last_shown :
    (local n : ℕ) → n ≤ end_second → local_at berlin n ≡ local → (n < back → n + 3_600 < back) → IsSecondOf true berlin local (Ok n)
last_shown local n inside is usual = (
  Some n,
  None,
  (
    omega arith,
    is,
    λ k later within same.
        (let pair = is_later n k later (is ∙ sym same) (shown n) (shown k) in
        let far = usual pair.0 in
        omega (arith, pair.1, pair.2)),
  ),
  λ k within skips. is_shown local n k is (shown n) skips,
  refl,
)

-- the second of a local time that the clocks skip in March
is_skipped : (local n : ℕ) → local_at berlin n ≡ local → forward + (first_local + 3_600) ≤ local → local < forward + (first_local + 7_200) →
    Shown n → ⊥
is_skipped local n is low high (winter a i) = omega arith
is_skipped local n is low high (summer a b i) = omega arith
is_skipped local n is low high (later a i) = omega arith

skipped_second :
    (local : ℕ) → forward + (first_local + 3_600) ≤ local → local < forward + (first_local + 7_200) →
    IsSecondOf false berlin local (Ok forward)
unfolding row_at
skipped_second local low high = (
  None,
  Some forward,
  λ n within is. is_skipped local n is low high (shown n),
  (
    omega arith,
    (let before : local_at berlin (forward - 1) ≡ forward - 1 + (first_local + 3_600) = refl in
        let after : local_at berlin forward ≡ forward + (first_local + 7_200) = refl in
        (omega arith, omega arith, omega arith)),
    λ k earlier skips. (let gap = in_gap local k (shown k) (shown (k - 1)) skips in omega (arith, gap.0)),
  ),
  refl,
)

-- the second at which a clock of UTC shows a local time
utc_at : (n : ℕ) → local_at [] n ≡ n + first_local
unfolding row_at
utc_at n = omega arith

in_utc : (local n : ℕ) → n ≤ end_second → n + first_local ≡ local → IsSecondOf false [] local (Ok n)
in_utc local n inside is = (
  Some n,
  None,
  (omega arith, utc_at n ∙ is, λ k earlier same. (let other = utc_at k in omega (arith, same))),
  λ k within skips.
      (let here = utc_at k in
      let before = utc_at (k - 1) in
      omega (arith, skips.0, skips.1, skips.2)),
  refl,
)

-- ---- texts of times

-- a text is this second, for a span that starts there
abbrev StartsAt : List ℕ → ℕ → Type 0
StartsAt text n = IsSince berlin now (form_of text) (Ok n)

-- a text is this second, for a span that starts at another and ends there
abbrev EndsAt : (since : ℕ) → List ℕ → ℕ → Type 0
EndsAt since text n = IsUntil berlin since now (form_of text) (Ok n)

-- 2026-03-27T17:04:05Z
from_now : StartsAt (codes "now") 1_774_631_045
unfolding on_times row_at
from_now = refl

-- 2026-03-26T23:00:00Z
from_today : StartsAt (codes "today") 1_774_566_000
unfolding on_times row_at
from_today = first_shown _ 1_774_566_000 (omega arith) refl (λ past. omega arith)

-- 2026-03-28T01:00:00Z
from_tomorrow_at_two : StartsAt (codes "tomorrow 02:00") 1_774_659_600
unfolding on_times row_at
from_tomorrow_at_two = first_shown _ 1_774_659_600 (omega arith) refl (λ past. omega arith)

-- 2026-03-27T21:00:00Z
from_ten : StartsAt (codes "22:00") 1_774_645_200
unfolding on_times row_at
from_ten = first_shown _ 1_774_645_200 (omega arith) refl (λ past. omega arith)

-- 2026-03-28T05:00:00Z, from 2026-03-27T21:00:00Z on
to_six : EndsAt 1_774_645_200 (codes "06:00") 1_774_674_000
unfolding on_times row_at
to_six = (
  Ok 1_774_587_600,
  last_shown _ 1_774_587_600 (omega arith) refl (λ before. omega arith),
  last_shown _ 1_774_674_000 (omega arith) refl (λ before. omega arith),
)

-- 2026-03-28T21:00:00Z
from_saturday_at_ten : StartsAt (codes "sat 22:00") 1_774_731_600
unfolding on_times row_at
from_saturday_at_ten = first_shown _ 1_774_731_600 (omega arith) refl (λ past. omega arith)

-- 2026-03-29T02:00:00Z, from 2026-03-28T21:00:00Z on
to_sunday_at_four : EndsAt 1_774_731_600 (codes "sun 04:00") 1_774_749_600
unfolding on_times row_at
to_sunday_at_four = (Ok 1_774_749_600, last_shown _ 1_774_749_600 (omega arith) refl (λ before. omega arith), refl)

-- 2026-03-26T23:00:00Z
from_friday : StartsAt (codes "fri") 1_774_566_000
unfolding on_times row_at
from_friday = first_shown _ 1_774_566_000 (omega arith) refl (λ past. omega arith)

-- 2026-03-27T11:00:00Z
from_friday_at_noon : StartsAt (codes "fri 12:00") 1_774_609_200
unfolding on_times row_at
from_friday_at_noon = first_shown _ 1_774_609_200 (omega arith) refl (λ past. omega arith)

-- 2026-04-02T22:00:00Z, from 2026-03-27T11:00:00Z on
to_friday : EndsAt 1_774_609_200 (codes "fri") 1_775_167_200
unfolding on_times row_at
to_friday = (
  Ok 1_774_566_000,
  last_shown _ 1_774_566_000 (omega arith) refl (λ before. omega arith),
  last_shown _ 1_775_167_200 (omega arith) refl (λ before. omega arith),
)

-- 2026-03-29T01:00:00Z
from_the_gap : StartsAt (codes "2026-03-29 02:30") 1_774_746_000
unfolding on_times row_at
from_the_gap = skipped_second _ (omega arith) (omega arith)

-- 2026-10-25T00:30:00Z
from_the_fold : StartsAt (codes "2026-10-25 02:30") 1_792_888_200
unfolding on_times row_at
from_the_fold = first_shown _ 1_792_888_200 (omega arith) refl (λ past. omega arith)

-- 2026-10-25T01:30:00Z, from 2026-10-25T00:30:00Z on
to_the_fold : EndsAt 1_792_888_200 (codes "2026-10-25 02:30") 1_792_891_800
unfolding on_times row_at
to_the_fold = (Ok 1_792_891_800, last_shown _ 1_792_891_800 (omega arith) refl (λ before. omega arith), refl)

-- 2026-03-29T02:30:00Z
from_two_in_utc : StartsAt (codes "2026-03-29 02:30 UTC") 1_774_751_400
unfolding on_times row_at
from_two_in_utc = in_utc _ 1_774_751_400 (omega arith) refl

-- 2026-03-29T01:30:00Z
from_an_offset : StartsAt (codes "2026-03-29T02:30:00+01:00") 1_774_747_800
unfolding on_times row_at
from_an_offset = refl

-- 2026-03-27T18:34:05Z
from_later : StartsAt (codes "+1h 30min") 1_774_636_445
unfolding on_times row_at
from_later = refl

-- 2026-03-28T02:34:05Z, from 2026-03-27T18:34:05Z on
to_eight_hours_later : EndsAt 1_774_636_445 (codes "+8h") 1_774_665_245
unfolding on_times row_at
to_eight_hours_later = refl

-- 2026-03-27T15:04:05Z
from_earlier : StartsAt (codes "2h ago") 1_774_623_845
unfolding on_times row_at
from_earlier = refl

-- 2026-03-28T15:04:05Z, from 2026-03-27T15:04:05Z on
to_a_day_later : EndsAt 1_774_623_845 (codes "+1day") 1_774_710_245
unfolding on_times row_at
to_a_day_later = refl

-- 1970-01-01T00:00:00Z
from_1970 : StartsAt (codes "@0") 0
unfolding on_times row_at
from_1970 = refl

-- 2026-03-26T23:00:00Z
from_a_dated_friday : StartsAt (codes "Fri 2026-03-27") 1_774_566_000
unfolding on_times row_at
from_a_dated_friday = first_shown _ 1_774_566_000 (omega arith) refl (λ past. omega arith)

-- 2026-03-27T18:04:05Z
from_an_hour_later : StartsAt (codes "+1 h") 1_774_634_645
unfolding on_times row_at
from_an_hour_later = refl

-- texts that are not times
no_times : map form_of
    (codes "Thu 2026-03-27"
    ∷ codes "24:00"
    ∷ codes "6"
    ∷ codes "tomorrow 25:00"
    ∷ codes "next friday"
    ∷ codes "2026-2-30"
    ∷ codes "2026-02-30"
    ∷ codes "2026-03-29T02:30:00+25:00"
    ∷ codes "+1.5s"
    ∷ codes "+infinity"
    ∷ codes ""
    ∷ [])
    ≡ replicate 11 (Err BadTime)
unfolding on_times row_at
no_times = refl
