use Rattle.std.proofs.Common.{◌+◌, ◌-◌, ◌*◌, ◌^◌, ◌≤◌, get_or, ◌∙◌, arith}
use Rattle.plan_spans.proofs.NumberLemmas.{too_large}
use Rattle.plan_spans.proofs.number.whole_number.Goals as goal

pub returns-in_err-checked_mul : goal.returns-in_err-checked_mul
returns-in_err-checked_mul c =
    let large : 2 ^ 64 ≤ c.loop-digit.number * 10 + (get_or c.args.digits.now c.loop-digit.digit-index 0 - 48) =
    omega (arith, c.in_err-checked_mul.ensures) in
    c.from_residual.ensures
    ∙ too_large c.loop-digit.number c.args.digits.now c.loop-digit.digit-index c.loop-digit-test.true c.loop-digit.invariant large

pub returns-in_err-number : goal.returns-in_err-number
returns-in_err-number c =
    let large : 2 ^ 64 ≤ c.loop-digit.number * 10 + (get_or c.args.digits.now c.loop-digit.digit-index 0 - 48) =
    omega (arith, c.in_err-number.ensures, c.in_ok-checked_mul.ensures) in
    c.from_residual-in_err-number.ensures
    ∙ too_large c.loop-digit.number c.args.digits.now c.loop-digit.digit-index c.loop-digit-test.true c.loop-digit.invariant large
