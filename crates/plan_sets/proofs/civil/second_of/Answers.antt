-- A date and time in the supported years has the number of a second before the end.
-- Answers the clauses of `second_of`, and that its cast loses nothing. The number is from 0 up to the end, so the cast keeps it.
-- By `Shows-civil_fields` its civil fields are the given ones.
use Rattle.std.proofs.Common.{◌∙◌, ◌<ℤ◌, ◌≤ℤ◌, arith, ap, of_z, pos, refl, sym, to_z, unsigned_abs, w64}
use Rattle.std.specs.Option.{is_some}
use Rattle.std.proofs.lemmas.Bool.{false≢true}
use Rattle.jiff_core.proofs.SignedLemmas.{signed_arith}
use Rattle.plan_sets.specs.Limits.{end_second}
use Rattle.plan_sets.specs.Civil.{IsDateTime}
use Rattle.plan_sets.specs.CivilLaws.{Shows-civil_fields}
use Rattle.plan_sets.proofs.CivilLemmas.{second_number-bounds, IsCast, IsCast-second}
use Rattle.plan_sets.proofs.civil.second_of.Goals as goal
use Rattle.plan_sets.proofs.civil.second_of.Goals.{In_ok-number}

exists : (c : In_ok-number) → IsDateTime c.args.year c.args.month c.args.day c.args.hour c.args.minute c.args.second
exists c = c.in_ok-number.ensures.some.0 refl

-- the number is not negative, and before the end
bounds : (c : In_ok-number) → (pos 0 ≤ℤ c.in_ok-number.number) × (c.in_ok-number.number <ℤ pos end_second)
bounds c =
    rw c.in_ok-number.ensures.number (second_number-bounds _ _ _ _ _ _ ((omega arith, omega arith), exists c))

-- so the cast keeps it
cast : (c : In_ok-number) → IsCast c.in_ok-number.number (unsigned_abs (to_z w64 (of_z w64 c.in_ok-number.number)))
cast c =
    let b = bounds c in
    IsCast-second c.in_ok-number.number b.0 (omega (arith, signed_arith))

pub overflow_cast-result : goal.overflow_cast-result
overflow_cast-result c =
    let k = cast c in
    let b = bounds c in
    rw k.back (omega (arith, signed_arith))

pub returns-clause-range : goal.returns-clause-range
returns-clause-range c =
    let k = cast c in
    let b = bounds c in
    omega (arith, signed_arith)

pub returns-clause-number : goal.returns-clause-number
returns-clause-number c = (cast c).same ∙ c.in_ok-number.ensures.number

pub returns-clause-fields : goal.returns-clause-fields
returns-clause-fields c =
    let k = cast c in
    Shows-civil_fields _ _ _ _ _ _ _ k.fits (exists c) (k.same ∙ c.in_ok-number.ensures.number)

pub returns-clause-some : goal.returns-clause-some
returns-clause-some c = (λ _. ((omega arith, omega arith), exists c), λ _. refl)

pub returns-in_err-number-clause-some : goal.returns-in_err-number-clause-some
returns-in_err-number-clause-some c = (
  λ some. absurd (false≢true (sym (ap is_some c.from_residual.ensures) ∙ some)),
  λ given. absurd (false≢true (c.in_err-number.ensures.some.1 given.1)),
)
