-- The elements are visited in their order: `before` of them come before `from`, so this is the rank of the next one.
use Rattle.std.proofs.Common.{◌≡◌, ◌+◌, ◌*◌, ◌≤◌, ◌<◌, ◌^◌, true, false, Some, None, map, sym, ◌∙◌, arith}
use Rattle.std.proofs.lemmas.Bool.Decides.{nat_tests}
use Rattle.plan_systemd.specs.LateDays.{element_order, farthest, is_too_far, rank}
use Rattle.plan_systemd.proofs.LateDaysLemmas.{all_fail, all_pass, fails_until, least_from, next_listed, rank_after, rank_of_next, rank-zero, some_passes}
use Rattle.plan_systemd.proofs.late_days.has_late_days.Goals as goal

pub loop-order-init : goal.loop-order-init
loop-order-init c =
    let orders = map element_order c.args.items.now in
    (rank-zero orders, all_pass _ (λ order. grind (arith, nat_tests)) orders, omega arith, omega arith)

pub returns : goal.returns
returns c =
    let orders = map element_order c.args.items.now in
    sym (all_fail (is_too_far orders) c.loop-order.from orders (sym c.least_from.ensures.value ∙ c.in_default.is) c.loop-order.invariant.1)

pub returns-then-farthest-before-gt-FARTHEST_DAY : goal.returns-then-farthest-before-gt-FARTHEST_DAY
returns-then-farthest-before-gt-FARTHEST_DAY c =
    let orders = map element_order c.args.items.now in
    let next : least_from c.loop-order.from None orders ≡ Some c.in-Some.order = sym c.least_from.ensures.value ∙ c.in-Some.is in
    let before : rank c.in-Some.order orders ≡ c.loop-order.before =
    rank_of_next c.loop-order.from c.in-Some.order c.loop-order.before orders next c.loop-order.invariant.0 in
    let far : farthest c.in-Some.order ≡ c.farthest.result = sym c.farthest.ensures.value in
    let more : 28 < farthest c.in-Some.order + 3 * rank c.in-Some.order orders = omega (arith, before, far, c.if-farthest-before-gt-FARTHEST_DAY.true) in
    let is : is_too_far orders c.in-Some.order ≡ true = grind (arith, nat_tests) in
    sym (some_passes (is_too_far orders) c.in-Some.order orders (next_listed c.loop-order.from c.in-Some.order orders next).1 is)

pub loop-order-smaller : goal.loop-order-smaller
loop-order-smaller c =
    let orders = map element_order c.args.items.now in
    let next : least_from c.loop-order.from None orders ≡ Some c.in-Some.order = sym c.least_from.ensures.value ∙ c.in-Some.is in
    let from : c.loop-order.from ≤ c.in-Some.order = (next_listed c.loop-order.from c.in-Some.order orders next).0 in
    let small : c.in-Some.order < 2 ^ 48 = c.in-Some.ensures.small in
    omega (arith, from, small)

pub loop-order-preserved : goal.loop-order-preserved
loop-order-preserved c =
    let orders = map element_order c.args.items.now in
    let next : least_from c.loop-order.from None orders ≡ Some c.in-Some.order = sym c.least_from.ensures.value ∙ c.in-Some.is in
    let before : rank c.in-Some.order orders ≡ c.loop-order.before =
    rank_of_next c.loop-order.from c.in-Some.order c.loop-order.before orders next c.loop-order.invariant.0 in
    let far : farthest c.in-Some.order ≡ c.farthest.result = sym c.farthest.ensures.value in
    let fits : farthest c.in-Some.order + 3 * rank c.in-Some.order orders ≤ 28 = omega (arith, before, far, c.if-farthest-before-gt-FARTHEST_DAY.false) in
    let fails : is_too_far orders c.in-Some.order ≡ false = grind (arith, nat_tests) in
    let small : c.in-Some.order < 2 ^ 48 = c.in-Some.ensures.small in (
      rank_after c.loop-order.from c.in-Some.order c.loop-order.before orders next c.loop-order.invariant.0,
      fails_until (is_too_far orders) c.loop-order.from c.in-Some.order orders next c.loop-order.invariant.1 fails,
      omega (arith, small),
      omega (arith, c.if-farthest-before-gt-FARTHEST_DAY.false),
    )
