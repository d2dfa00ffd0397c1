-- Where a quoted text is cut: `floor_char_boundary` gives the last boundary of characters that is at most 64. For `shown`.
use Rattle.std.proofs.Common.{◌≡◌, ℕ, zero, suc, ◌-◌, ◌<◌, ◌≤◌, Bool, true, false, nat_le, List, length, take, sym, ap, subst, ◌∙◌, arith, inl, inr}
use Rattle.std.specs.Fmt.{is_char_start}
use Rattle.std.specs.Fmt.Cut.{floor_char_boundary}
use Rattle.std.specs.Prelude.{if◌then◌else◌, slice_index}
use Rattle.std.specs.List.{slice_range}
use Rattle.std.specs.Str.{IsCharBoundary}
use Rattle.std.proofs.lemmas.Bool.{cases_lt}
use Rattle.std.proofs.lemmas.Bool.Decides.{nat_tests}
use Rattle.agenda_findings.specs.Quotes.{shown}

starts : (b : ℕ) → (128 ≤ b → 192 ≤ b) → is_char_start b ≡ true
starts b boundary = grind (arith, nat_tests, boundary)

starts_not : (b : ℕ) → ((128 ≤ b → 192 ≤ b) → ⊥) → is_char_start b ≡ false
starts_not b inside = grind (arith, nat_tests, inside)

pub floor_is :
    (text : List ℕ) (most at : ℕ) → most < length text → at ≤ most → IsCharBoundary text at →
    ((later : ℕ) → at < later → later ≤ most → IsCharBoundary text later → ⊥) → floor_char_boundary text most ≡ at
unfolding floor_char_boundary
floor_is text zero at inside le boundary nearest = omega (arith, le)
floor_is text (suc most) at inside le boundary nearest =
    elim (cases_lt at (suc most)) as (λ _. floor_char_boundary text (suc most) ≡ at) [
      | inl before ↦
          let no_start : is_char_start (slice_index text (suc most)) ≡ false =
          starts_not (slice_index text (suc most))
          (λ start. nearest (suc most) before (omega arith) ((omega (arith, inside)), λ _. start)) in
          ap (λ (start : Bool). if start then suc most else floor_char_boundary text most) no_start
          ∙ floor_is text most at (omega (arith, inside)) (omega (arith, before)) boundary
          (λ later after few. nearest later after (omega (arith, few)))
      | inr past ↦
          let same : at ≡ suc most = omega (arith, le, past) in
          let start : is_char_start (slice_index text (suc most)) ≡ true =
          starts (slice_index text (suc most)) (λ high. subst (λ place. 128 ≤ slice_index text place → 192 ≤ slice_index text place) same
          (boundary.1 (omega (arith, inside, le))) high) in
          ap (λ (is : Bool). if is then suc most else floor_char_boundary text most) start ∙ sym same
    ]

-- a short text is shown whole
pub shown_all : (text : List ℕ) → length text ≤ 64 → shown text ≡ text
unfolding shown
shown_all text short = grind (arith, nat_tests, short)

-- a longer one is cut at the last boundary
pub shown_cut :
    (text : List ℕ) (at : ℕ) → 64 < length text → at ≤ 64 → IsCharBoundary text at →
    ((later : ℕ) → at < later → later ≤ 64 → IsCharBoundary text later → ⊥) → shown text ≡ slice_range text 0 at
unfolding shown
shown_cut text at long few boundary nearest =
    let cut : floor_char_boundary text 64 ≡ at = floor_is text 64 at long few boundary nearest in
    let too_long : nat_le (length text) 64 ≡ false = grind (arith, nat_tests, long) in
    let whole : at ≡ at - 0 = omega arith in
    rw (too_long, cut) (ap (λ n. take n text) whole)
