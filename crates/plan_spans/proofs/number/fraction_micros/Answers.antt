use Rattle.std.proofs.Common.{◌≡◌, ◌+◌, ◌-◌, ◌*◌, ◌/◌, ◌≤◌, get_or, ap, ◌∙◌, arith}
use Rattle.plan_spans.proofs.NumberLemmas.{next_part, fraction_step, part_room, digit_small}
use Rattle.plan_spans.proofs.number.fraction_micros.Goals as goal
use Rattle.plan_spans.proofs.number.fraction_micros.Goals.{After-from}

pub loop-digit-preserved : goal.loop-digit-preserved
loop-digit-preserved c =
    let digits = c.args.digits.now in
    let i = c.loop-digit.digit-index in
    let held = c.loop-digit.invariant in
    let is : c.from.result ≡ get_or c.args.digits.now c.loop-digit.digit-index 0 - 48 = c.from.ensures in
    let at_most : get_or c.args.digits.now c.loop-digit.digit-index 0 - 48 ≤ 9 =
    digit_small digits i c.requires.all c.loop-digit-test.true in
    let room = part_room c.from.result c.loop-digit.part (omega arith) in
    record {
      part = ap (λ n. n / 10) held.part ∙ next_part c.args.unit i;
      left = fraction_step c.args.unit c.loop-digit.sum c.loop-digit.part c.from.result _ digits i c.loop-digit-test.true held.part is
          held.left;
      small = omega (arith, room, held.small);
    }

-- what the digit counts and the part that is left after it are at most the part before it
within_part : (c : After-from) → c.from.result * (c.loop-digit.part / 10) + c.loop-digit.part / 10 ≤ c.loop-digit.part
within_part c =
    let is : c.from.result ≡ get_or c.args.digits.now c.loop-digit.digit-index 0 - 48 = c.from.ensures in
    let at_most : get_or c.args.digits.now c.loop-digit.digit-index 0 - 48 ≤ 9 =
    digit_small c.args.digits.now c.loop-digit.digit-index c.requires.all c.loop-digit-test.true in
    part_room c.from.result c.loop-digit.part (omega arith)

pub overflow_mul-sum : goal.overflow_mul-sum
overflow_mul-sum c = let within = within_part c in omega (arith, c.loop-digit.invariant.small)

pub overflow_add-sum : goal.overflow_add-sum
overflow_add-sum c = let within = within_part c in omega (arith, c.loop-digit.invariant.small)
