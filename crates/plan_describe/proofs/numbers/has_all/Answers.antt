use Rattle.std.proofs.Common.{◌≡◌, ◌+◌, ◌-◌, true, false, ◌∙◌, sym, arith}
use Rattle.plan_sets.specs.Values.{has_value}
use Rattle.plan_describe.proofs.NumbersLemmas.{all_done, all_step, whole_members}
use Rattle.plan_describe.proofs.numbers.has_all.Goals as goal

pub returns : goal.returns
returns c =
    let a = c.args in
    let test = has_value a.values.now in
    sym (whole_members test a.first (a.end - a.first) (a.end - 1) (omega (arith, c.requires)) (omega (arith, c.requires))
    ∙ sym c.loop-value.invariant ∙ all_done test c.loop-value.value (a.end - c.loop-value.value) (omega arith))

pub returns-then-not-contains : goal.returns-then-not-contains
returns-then-not-contains c =
    let a = c.args in
    let test = has_value a.values.now in
    let v = c.loop-value.value in
    let fails : test v ≡ false = sym c.contains.ensures ∙ c.if-not-contains.true in
    sym (whole_members test a.first (a.end - a.first) (a.end - 1) (omega (arith, c.requires)) (omega (arith, c.requires))
    ∙ sym c.loop-value.invariant ∙ all_step test v (a.end - v) (a.end - (v + 1)) false fails (omega (arith, c.loop-value-test.true)))

pub loop-value-preserved : goal.loop-value-preserved
loop-value-preserved c =
    let a = c.args in
    let test = has_value a.values.now in
    let v = c.loop-value.value in
    let passes : test v ≡ true = sym c.contains.ensures ∙ c.if-not-contains.false in
    sym (all_step test v (a.end - v) (a.end - (v + 1)) true passes (omega (arith, c.loop-value-test.true))) ∙ c.loop-value.invariant
