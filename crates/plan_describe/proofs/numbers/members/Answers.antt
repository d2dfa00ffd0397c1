-- The next member is the first of those that are left, and without one none is left.
use Rattle.std.proofs.Common.{◌≡◌, ◌+◌, ◌-◌, ◌++◌, ◌∷◌, [], List, ℕ, ap, sym, ◌∙◌, arith, append_assoc, append-nil}
use Rattle.plan_sets.specs.Values.{has_value}
use Rattle.plan_describe.specs.Numbers.{members}
use Rattle.plan_describe.proofs.NumbersLemmas.{members_next, members_none}
use Rattle.plan_describe.proofs.numbers.members.Goals as goal

pub loop-value-preserved : goal.loop-value-preserved
loop-value-preserved c =
    let test = has_value c.args.values.now in
    let found = c.loop-value.found.items in
    let v = c.in-Some.value in
    let next = c.in-Some.ensures in
    let left : members test c.loop-value.from (c.args.end - c.loop-value.from) ≡ v ∷ members test (v + 1) (c.args.end - (v + 1)) =
    members_next test c.loop-value.from (c.args.end - c.loop-value.from) v (c.args.end - (v + 1)) next.0 (omega (arith, next.0, next.1)) next.2 next.3
    (omega (arith, next.0, next.1)) in
    ap (λ (items : List ℕ). items ++ members test (v + 1) (c.args.end - (v + 1))) c.in_ok-push.ensures.items
    ∙ append_assoc found (v ∷ []) (members test (v + 1) (c.args.end - (v + 1)))
    ∙ ap (λ (more : List ℕ). found ++ more) (sym left)
    ∙ c.loop-value.invariant

pub returns : goal.returns
returns c =
    let test = has_value c.args.values.now in
    let found = c.loop-value.found.items in
    let left : members test c.loop-value.from (c.args.end - c.loop-value.from) ≡ [] =
    members_none test c.loop-value.from (c.args.end - c.loop-value.from) (λ u low high. c.in_default.ensures u low (omega (arith, low, high))) in
    sym (append-nil found) ∙ ap (λ (more : List ℕ). found ++ more) (sym left) ∙ c.loop-value.invariant
