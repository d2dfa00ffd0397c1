-- The texts of times in UTC and by a clock are told apart by their length, and the one is the other with a Z.
use Rattle.std.proofs.Common.{◌≡◌, ◌≢◌, ℕ, ◌+◌, ◌<◌, ◌≤◌, ℤ, pos, negsuc, ◌+ℤ◌, nat_abs, List, ◌++◌, codes, get_or, length, take, drop, Option, None, Some, IfSome, IfNone, ap, arith, inl, inr, refl, sym, ◌∙◌}
use Rattle.std.proofs.lemmas.Int.{ints}
use Rattle.std.proofs.lemmas.List.{drop_at, length-append, take_at}
use Rattle.std.proofs.lemmas.Bool.Decides.{nat_tests}
use Rattle.plan_sets.specs.Limits.{end_second}
use Rattle.plan_sets.specs.Civil.{civil_fields}
use Rattle.plan_sets.specs.Moment.{moment_text_of, written_of}
use Rattle.plan_sets.proofs.MomentLemmas.{Says-moment_text_of, Says-second}
use Rattle.plan_write.specs.LocalTimes.{date_time, distance_text, offset_text}
use Rattle.plan_baseline.specs.Times.{IsLocal, IsTimeOf, IsTimeRead}

pub moment_length : (n : ℕ) → length (moment_text_of n) ≡ 20
unfolding moment_text_of
moment_length n = refl

-- the date and time of day with a Z are the text in UTC
pub date_time_utc : (n : ℕ) → date_time n ++ codes "Z" ≡ moment_text_of n
unfolding moment_text_of
date_time_utc n = refl

-- an offset has at least six bytes
offset_length : (offset : ℤ) → 6 ≤ length (offset_text offset)
offset_length (pos d) = grind (arith, nat_tests)
offset_length (negsuc d) = grind (arith, nat_tests)

date_time_length : (n : ℕ) → length (date_time n) ≡ 19
unfolding moment_text_of
date_time_length n = refl

pub local_length : (text : List ℕ) (second : ℕ) → IsLocal text second → 25 ≤ length text
local_length text second is =
    omega (arith, ap length is.text_is, length-append (date_time is.shown) (offset_text is.offset), date_time_length is.shown, offset_length is.offset)

-- ---- one text is that of one second

pub moment_unique : (m n : ℕ) → m ≤ end_second → n ≤ end_second → moment_text_of m ≡ moment_text_of n → m ≡ n
moment_unique m n first second same =
    let says = Says-moment_text_of (moment_text_of m) m first refl in
    let w = written_of (civil_fields m) in
    let number : pos m ≡ pos n = sym (Says-second (moment_text_of m) m w first refl says).1 ∙ (Says-second (moment_text_of m) n w second same says).1 in
    omega (arith, ints, number)

distance_unique : (m n : ℕ) → m < 360000 → n < 360000 → distance_text m ≡ distance_text n → m ≡ n
distance_unique m n first second same = grind (arith, nat_tests)

pub offset_unique : (m n : ℤ) → nat_abs m < 360000 → nat_abs n < 360000 → offset_text m ≡ offset_text n → m ≡ n
offset_unique (pos m) (pos n) first second same = ap pos (distance_unique m n first second (ap (drop 1) same))
offset_unique (pos m) (negsuc n) first second same = absurd (omega (arith, ap (λ t. get_or t 0 0) same))
offset_unique (negsuc m) (pos n) first second same = absurd (omega (arith, ap (λ t. get_or t 0 0) same))
offset_unique (negsuc m) (negsuc n) first second same =
    let next : m + 1 ≡ n + 1 = distance_unique (m + 1) (n + 1) (omega (arith, first)) (omega (arith, second)) (ap (drop 1) same) in
    ap negsuc (omega (arith, next))

-- ---- a local text in two parts

-- a text whose first 19 bytes are `front` is that of a second by some clock: with a Z these are a text in UTC, and an offset follows
pub record AreParts (front back : List ℕ) (second : ℕ) : Type 0 where
  pub shown : ℕ
  pub offset : ℤ
  pub years : shown ≤ end_second
  pub near : nat_abs offset < 360000
  pub front_is : front ++ codes "Z" ≡ moment_text_of shown
  pub back_is : back ≡ offset_text offset
  pub shown_is : pos shown ≡ pos second +ℤ offset

pub parts_of : (text front back : List ℕ) (second : ℕ) → text ≡ front ++ back → length front ≡ 19 → IsLocal text second → AreParts front back second
parts_of text front back second parts long is =
    let whole : front ++ back ≡ date_time is.shown ++ offset_text is.offset = sym parts ∙ is.text_is in
    let first : front ≡ date_time is.shown =
    sym (take_at front back 19 long) ∙ ap (take 19) whole ∙ take_at (date_time is.shown) (offset_text is.offset) 19 (date_time_length is.shown) in
    let last : back ≡ offset_text is.offset =
    sym (drop_at front back 19 long) ∙ ap (drop 19) whole ∙ drop_at (date_time is.shown) (offset_text is.offset) 19 (date_time_length is.shown) in
    record {
      shown = is.shown;
      offset = is.offset;
      years = is.years;
      near = is.near;
      front_is = ap (λ t. t ++ codes "Z") first ∙ date_time_utc is.shown;
      back_is = last;
      shown_is = is.shown_is;
    }

local_of :
    (text front back : List ℕ) (second shown : ℕ) (offset : ℤ) → text ≡ front ++ back → length front ≡ 19 →
    (shown ≤ end_second) × (front ++ codes "Z" ≡ moment_text_of shown) → (nat_abs offset < 360000) × (back ≡ offset_text offset) →
    pos shown ≡ pos second +ℤ offset → IsLocal text second
local_of text front back second shown offset parts long front_is back_is shown_is = record {
  shown = shown;
  offset = offset;
  years = front_is.0;
  near = back_is.0;
  text_is =
      let first : front ≡ date_time shown = sym (take_at front (codes "Z") 19 long) ∙ ap (take 19) front_is.1 in
      parts ∙ ap (λ t. t ++ back) first ∙ ap (λ t. date_time shown ++ t) back_is.1;
  shown_is = shown_is;
}

-- what was found of the two parts is what they are
same_second :
    (front back : List ℕ) (second shown : ℕ) (offset : ℤ) → (shown ≤ end_second) × (front ++ codes "Z" ≡ moment_text_of shown) →
    (nat_abs offset < 360000) × (back ≡ offset_text offset) → AreParts front back second → pos shown ≡ pos second +ℤ offset
same_second front back second shown offset front_is back_is are =
    let m : are.shown ≡ shown = moment_unique are.shown shown are.years front_is.0 (sym are.front_is ∙ front_is.1) in
    let o : are.offset ≡ offset = offset_unique are.offset offset are.near back_is.0 (sym are.back_is ∙ back_is.1) in
    ap pos (sym m) ∙ are.shown_is ∙ ap (λ z. pos second +ℤ z) o

module _ (text front back : List ℕ) (shown : ℕ) (offset : ℤ) (parts : text ≡ front ++ back) (long : length front ≡ 19)
    (front_is : (shown ≤ end_second) × (front ++ codes "Z" ≡ moment_text_of shown))
    (back_is : (nat_abs offset < 360000) × (back ≡ offset_text offset)) where
  pub found_local :
      (result : Option ℕ) → IfSome result (λ n. (n ≤ end_second) × (pos shown ≡ pos n +ℤ offset)) →
      IfSome result (λ n. (n ≤ end_second) × IsLocal text n)
  found_local None is = tt
  found_local (Some n) is = (is.0, local_of text front back n shown offset parts long front_is back_is is.1)

  pub none_local :
      (result : Option ℕ) → IfNone result ((n : ℕ) → n ≤ end_second → pos shown ≢ pos n +ℤ offset) →
      IfNone result ((n : ℕ) → n ≤ end_second → ¬ IsLocal text n)
  none_local None none = λ n years is. none n years (same_second front back n shown offset front_is back_is (parts_of text front back n parts long is))
  none_local (Some n) none = tt

-- ---- what is read

not_local : (text : List ℕ) (second : ℕ) → length text ≡ 20 → ¬ IsLocal text second
not_local text second long is = omega (arith, long, local_length text second is)

pub utc_read :
    (text : List ℕ) (result : Option ℕ) → length text ≡ 20 →
    IfSome result (λ n. (n ≤ end_second) × (text ≡ moment_text_of n)) →
    IfNone result ((n : ℕ) → n ≤ end_second → text ≢ moment_text_of n) → IsTimeRead text result
utc_read text None long some none = λ second is. elim is.1 [
  | inl utc ↦ none second is.0 utc
  | inr local ↦ not_local text second long local
]
utc_read text (Some n) long some none = (some.0, inl some.1)

pub local_read :
    (text : List ℕ) (result : Option ℕ) → length text ≢ 20 →
    IfSome result (λ n. (n ≤ end_second) × IsLocal text n) →
    IfNone result ((n : ℕ) → n ≤ end_second → ¬ IsLocal text n) → IsTimeRead text result
local_read text None long some none = λ second is. elim is.1 [
  | inl utc ↦ long (ap length utc ∙ moment_length second)
  | inr local ↦ none second is.0 local
]
local_read text (Some n) long some none = (some.0, inr some.1)

-- one text is that of one second
pub time_unique : (text : List ℕ) (m n : ℕ) → IsTimeOf text m → IsTimeOf text n → m ≡ n
time_unique text m n (first, inl utc) (second, inl utc₂) = moment_unique m n first second (sym utc ∙ utc₂)
time_unique text m n (first, inl utc) (second, inr local) = absurd (not_local text n (ap length utc ∙ moment_length m) local)
time_unique text m n (first, inr local) (second, inl utc) = absurd (not_local text m (ap length utc ∙ moment_length n) local)
time_unique text m n (first, inr local) (second, inr local₂) =
    let front = date_time local.shown in
    let found : (local.shown ≤ end_second) × (front ++ codes "Z" ≡ moment_text_of local.shown) = (local.years, date_time_utc local.shown) in
    let are = parts_of text front (offset_text local.offset) n local.text_is (date_time_length local.shown) local₂ in
    let sum = same_second front (offset_text local.offset) n local.shown local.offset found (local.near, refl) are in
    omega (arith, ints, sum, local.shown_is)
