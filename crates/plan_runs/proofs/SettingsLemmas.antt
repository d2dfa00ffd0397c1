-- A value may be cut after the quote that it begins with, and before the one that it ends with: for `unquoted`.
use Rattle.std.proofs.Common.{◌≡◌, ℕ, ◌-◌, ◌<◌, ◌≤◌, ◌||◌, true, List, length, get_or, arith}
use Rattle.std.proofs.lemmas.Bool.Decides.{nat_tests}
use Rattle.std.proofs.lemmas.Grind.{common_steps}
use Rattle.std.proofs.lemmas.Str.{IsCharBoundary-after_ascii, IsCharBoundary-before_ascii}
use Rattle.std.specs.Str.{IsCharBoundary, IsUtf8}
use Rattle.plan_runs.specs.Settings.{is_quoted}

-- a value in quotes has two bytes at least, which are ASCII
pub quoted_is :
    (value : List ℕ) → (is_quoted 34 value || is_quoted 39 value) ≡ true →
    (2 ≤ length value) × ((get_or value 0 0 < 128) × (get_or value (length value - 1) 0 < 128))
quoted_is value quoted = (grind (arith, nat_tests, common_steps), (grind (arith, nat_tests, common_steps), grind (arith, nat_tests, common_steps)))

pub boundary_after_quote :
    (value : List ℕ) → IsUtf8 value → (is_quoted 34 value || is_quoted 39 value) ≡ true → IsCharBoundary value 1
boundary_after_quote value utf8 quoted =
    let is = quoted_is value quoted in
    IsCharBoundary-after_ascii value 0 utf8 (omega (arith, is.0)) is.1.0

pub boundary_before_quote :
    (value : List ℕ) → (is_quoted 34 value || is_quoted 39 value) ≡ true → IsCharBoundary value (length value - 1)
boundary_before_quote value quoted =
    let is = quoted_is value quoted in
    IsCharBoundary-before_ascii value (length value - 1) (omega (arith, is.0)) is.1.1
