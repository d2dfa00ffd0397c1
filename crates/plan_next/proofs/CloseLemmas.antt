-- Starts that are close together, one start after another.
-- For the loop of `has_close_starts`: what is left of the question once some starts are known.
use Rattle.std.proofs.Common.{◌≡◌, ℕ, ◌+◌, ◌<◌, ◌≤◌, Bool, true, false, ◌||◌, ◌++◌, None, Some, refl, ap, sym, ◌∙◌, arith, inl, inr}
use Rattle.std.specs.Prelude.{is_some, nat_lt}
use Rattle.std.specs.List.{list_any}
use Rattle.std.proofs.lemmas.Bool.{cases_lt, le-ltb}
use Rattle.plan_match.specs.declared.rule.Rule.{Rule}
use Rattle.plan_sets.specs.Limits.{end_second}
use Rattle.plan_next.specs.Close.{has_close_starts, has_start}
use Rattle.plan_next.specs.Next.{IsFirstOrEnd}
use Rattle.plan_next.specs.Starts.{NoneIn, IsLeastIn, is_start, passing}
use Rattle.plan_next.specs.StartsLaws.{passing-append, passing-none, passing-least, passing-first}

-- a part that begins later has the same numbers that pass, if none passes before it
passing-later : (test : ℕ → Bool) (a b c : ℕ) → a ≤ b → NoneIn test a b → passing test a c ≡ passing test b c
passing-later test a b c le none =
    elim (cases_lt c b) [
      | inl before ↦
          passing-none test a c (λ n low high. none n low (omega arith))
          ∙ sym (passing-none test b c (λ n low high. absurd (omega arith)))
      | inr from ↦
          passing-append test a b c le from ∙ ap (λ xs. xs ++ passing test b c) (passing-none test a b none)
    ]

-- the question from a later second, if no start is before that
pub has_close_starts-later :
    (rule : Rule) (a b until apart : ℕ) → a ≤ b → NoneIn (is_start rule) a b →
    has_close_starts rule a until apart ≡ has_close_starts rule b until apart
has_close_starts-later rule a b until apart le none =
    ap (list_any (λ s. has_start rule (s + 1) (s + apart))) (passing-later (is_start rule) a b until le none)

-- at the end no start is left
pub has_close_starts-end : (rule : Rule) (a until apart : ℕ) → until ≤ a → has_close_starts rule a until apart ≡ false
has_close_starts-end rule a until apart le =
    ap (list_any (λ s. has_start rule (s + 1) (s + apart)))
    (passing-none (is_start rule) a until (λ n low high. absurd (omega arith)))

-- at a start: that one, or a later one
pub has_close_starts-here :
    (rule : Rule) (s until apart : ℕ) → s < until → is_start rule s ≡ true →
    has_close_starts rule s until apart ≡ (has_start rule (s + 1) (s + apart) || has_close_starts rule (s + 1) until apart)
has_close_starts-here rule s until apart lt is =
    ap (list_any (λ s. has_start rule (s + 1) (s + apart))) (passing-least (is_start rule) s until s (omega arith, lt, is, λ n low high. absurd (omega arith)))

-- a start in a part is known, or that there is none
pub has_start-least : (rule : Rule) (a b n : ℕ) → IsLeastIn (is_start rule) a b n → has_start rule a b ≡ true
has_start-least rule a b n least = ap is_some (sym (passing-first (is_start rule) a b (Some n) least))

pub has_start-none : (rule : Rule) (a b : ℕ) → NoneIn (is_start rule) a b → has_start rule a b ≡ false
has_start-none rule a b none = ap is_some (sym (passing-first (is_start rule) a b None none))

-- no start is near another one if the next start isn't, or if the search for it reached an end that is far enough
pub none_near :
    (rule : Rule) (s apart end n : ℕ) → IsFirstOrEnd (is_start rule) (s + 1) end n → (n < end → s + apart ≤ n) →
    (end < end_second → s + apart ≤ end) → NoneIn (is_start rule) (s + 1) (s + apart)
none_near rule s apart end n next far past k low high =
    elim (cases_lt k n) [
      | inl before ↦ next.none k low before
      | inr from ↦
          elim (cases_lt n end) [
            | inl found ↦ absurd (omega (arith, far found))
            | inr none ↦
                elim (cases_lt end end_second) [
                  | inl within ↦ absurd (omega (arith, past within))
                  | inr years ↦
                      let out : nat_lt k end_second ≡ false = le-ltb _ _ (omega arith) in
                      rw out refl
                ]
          ]
    ]

-- a start that has none near it is passed
pub has_close_starts-passed :
    (rule : Rule) (s until apart end n : ℕ) → s < until → is_start rule s ≡ true → IsFirstOrEnd (is_start rule) (s + 1) end n →
    NoneIn (is_start rule) (s + 1) (s + apart) → has_close_starts rule s until apart ≡ has_close_starts rule n until apart
has_close_starts-passed rule s until apart end n lt is next none =
    has_close_starts-here rule s until apart lt is
    ∙ ap (λ b. b || has_close_starts rule (s + 1) until apart) (has_start-none rule (s + 1) (s + apart) none)
    ∙ has_close_starts-later rule (s + 1) n until apart next.from next.none

-- a start that has one near it answers the question
pub has_close_starts-found :
    (rule : Rule) (s until apart end n : ℕ) → s < until → is_start rule s ≡ true → IsFirstOrEnd (is_start rule) (s + 1) end n →
    n < end → n < s + apart → has_close_starts rule s until apart ≡ true
has_close_starts-found rule s until apart end n lt is next found near =
    has_close_starts-here rule s until apart lt is
    ∙ ap (λ b. b || has_close_starts rule (s + 1) until apart)
    (has_start-least rule (s + 1) (s + apart) n (next.from, near, next.is found, next.none))
