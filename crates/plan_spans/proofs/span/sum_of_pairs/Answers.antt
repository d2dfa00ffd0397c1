use Rattle.std.proofs.Common.{◌≡◌, ◌+◌, ◌<◌, ◌≤◌, sym, ap, ◌∙◌, arith}
use Rattle.plan_spans.proofs.SpanLemmas.{sum_with, no_pair, pair_step, past_infinity, sum_with-end, finite-small}
use Rattle.plan_spans.specs.Spans.{infinity}
use Rattle.plan_spans.proofs.span.sum_of_pairs.Goals as goal

pub returns-in_err-pair : goal.returns-in_err-pair
returns-in_err-pair c =
    let held = c.loop-rest.invariant in
    c.from_residual.ensures
    ∙ sym (no_pair c.loop-rest.sum c.loop-rest.rest.now held.0 (sym c.loop-rest-test.ensures) (sym c.in_err-pair.ensures.value))
    ∙ held.3

pub returns-in_err-checked_add : goal.returns-in_err-checked_add
returns-in_err-checked_add c =
    let held = c.loop-rest.invariant in
    let pair = c.in_ok-pair.pair in
    let step = pair_step c.loop-rest.sum c.loop-rest.rest.now held.0 (pair.whole + pair.fraction) pair.rest.now held.1
    (sym c.in_ok-pair.ensures.value) c.in_ok-pair.ensures.shorter in
    let large : infinity ≤ c.loop-rest.sum + (c.in_ok-pair.pair.whole + c.in_ok-pair.pair.fraction) =
    omega (arith, c.in_err-checked_add.ensures) in
    c.from_residual-in_err-checked_add.ensures ∙ sym (past_infinity _ pair.rest.now step.0 large) ∙ sym step.2 ∙ held.3

pub returns-in_err-sum : goal.returns-in_err-sum
returns-in_err-sum c =
    let held = c.loop-rest.invariant in
    let pair = c.in_ok-pair.pair in
    let step = pair_step c.loop-rest.sum c.loop-rest.rest.now held.0 (pair.whole + pair.fraction) pair.rest.now held.1
    (sym c.in_ok-pair.ensures.value) c.in_ok-pair.ensures.shorter in
    let large : infinity ≤ c.loop-rest.sum + (c.in_ok-pair.pair.whole + c.in_ok-pair.pair.fraction) =
    omega (arith, c.in_ok-checked_add.ensures, c.in_err-sum.ensures) in
    c.from_residual-in_err-sum.ensures ∙ sym (past_infinity _ pair.rest.now step.0 large) ∙ sym step.2 ∙ held.3

pub loop-rest-preserved : goal.loop-rest-preserved
loop-rest-preserved c =
    let held = c.loop-rest.invariant in
    let pair = c.in_ok-pair.pair in
    let step = pair_step c.loop-rest.sum c.loop-rest.rest.now held.0 (pair.whole + pair.fraction) pair.rest.now held.1
    (sym c.in_ok-pair.ensures.value) c.in_ok-pair.ensures.shorter in
    let sum : c.in_ok-sum.sum ≡ c.loop-rest.sum + (c.in_ok-pair.pair.whole + c.in_ok-pair.pair.fraction) =
    omega (arith, c.in_ok-checked_add.ensures, c.in_ok-sum.ensures) in
    let fits : c.in_ok-sum.sum ≤ infinity = omega (arith, c.in_ok-sum.ensures) in
    (step.0, step.1, fits, ap (λ n. sum_with n pair.rest.now step.0) sum ∙ sym step.2 ∙ held.3)

pub returns : goal.returns
returns c =
    let held = c.loop-rest.invariant in
    let small : c.loop-rest.sum < infinity = omega arith in
    sym (finite-small c.loop-rest.sum small)
    ∙ sym (sum_with-end c.loop-rest.sum c.loop-rest.rest.now held.0 (sym c.loop-rest-test.ensures)) ∙ held.3
