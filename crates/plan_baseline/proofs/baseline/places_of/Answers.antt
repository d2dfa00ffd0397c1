use Rattle.std.proofs.Common.{◌≡◌, ℕ, ◌+◌, ◌<◌, ◌≤◌, ◌==◌, Bool, true, false, List, [], ◌∷◌, None, arith, length, refl, subst, sym}
use Rattle.std.proofs.lemmas.Bool.Decides.{nat_tests}
use Rattle.std.proofs.lemmas.List.{take_rest}
use Rattle.plan_baseline.specs.Reading.{IsLineRead, head_of}
use Rattle.plan_baseline.proofs.LoopLemmas.{IsAt, bad, begun, ended_right, ended_wrong, more}
use Rattle.plan_baseline.proofs.TailLemmas.{no_rest, time_end}
use Rattle.plan_baseline.proofs.baseline.places_of.Goals as goal

some_left : (left : List ℕ) (empty : Bool) → empty ≡ (length left == 0) → empty ≡ false → 0 < length left
some_left left empty is more = grind (arith, nat_tests)

none_left : (left : List ℕ) (empty : Bool) → empty ≡ (length left == 0) → empty ≡ true → left ≡ []
none_left [] empty is all = refl
none_left (b ∷ more) empty is all = absurd (grind (arith, nat_tests))

pub loop-number-init : goal.loop-number-init
loop-number-init c =
    begun c.args.text.now c.args.header.start (head_of c.args.header) _ _ _ _ c.since-from.ensures.value
    (take_rest c.args.text.now c.args.header.start) c.new-tails.ensures.items c.in_ok-places.ensures.items

pub loop-number-preserved : goal.loop-number-preserved
loop-number-preserved c =
    let text = c.args.text.now in
    let head = head_of c.args.header in
    let at = c.loop-number in
    let second = c.in-Some.second in
    let after = c.in-Some-2.after.now in
    let tails = c.tail_of.new.tails.items in
    let next =
    more text c.args.header.start head at.number at.from at.left.now at.tails.items at.places.items at.invariant second c.in-Some-2.tail
    c.in-Some.rest.now after tails c.in_ok-tail.ensures.kept.0 c.loop-number-test.true c.in-Some.ensures.time
    (subst (λ upto. (at.from ≤ second) × (second < upto)) c.upto.ensures.value c.in-Some.ensures.within) c.in_ok-tail.ensures.tails
    c.in_ok-tail.ensures.kept.1 (rw c.in-Some-2.is at c.in_ok-tail.ensures.read) in
    subst (IsAt text c.args.header.start head (at.number + 1) second after tails) (sym c.in_ok-push.ensures.items) next

pub tail_of-requires-clause-end : goal.tail_of-requires-clause-end
tail_of-requires-clause-end c =
    time_end c.args.text.now c.loop-number.left.now c.in-Some.rest.now c.in-Some.second c.loop-number.invariant.end c.in-Some.ensures.time

pub returns-in_default-clause-fault : goal.returns-in_default-clause-fault
returns-in_default-clause-fault c =
    let at = c.loop-number in
    bad c.args.text.now c.args.header.start (head_of c.args.header) at.number at.from at.left.now at.tails.items at.places.items
    at.invariant c.loop-number-test.true
    (subst (λ upto. IsLineRead at.from upto at.left.now None) c.upto.ensures.value c.in_default.ensures.none)

pub returns-in_default-2-clause-fault : goal.returns-in_default-2-clause-fault
returns-in_default-2-clause-fault c =
    let head = head_of c.args.header in
    let at = c.loop-number in
    bad c.args.text.now c.args.header.start head at.number at.from at.left.now at.tails.items at.places.items at.invariant
    c.loop-number-test.true
    (no_rest at.from head.span.upto c.in-Some.second at.left.now c.in-Some.rest.now c.in-Some.ensures.time
    (rw c.in_default-2.is at c.in_ok-tail.ensures.read))

pub returns-then-not-is_empty-clause-fault : goal.returns-then-not-is_empty-clause-fault
returns-then-not-is_empty-clause-fault c =
    let at = c.loop-number in
    ended_wrong c.args.text.now c.args.header.start (head_of c.args.header) at.number at.from at.left.now at.tails.items at.places.items
    at.invariant c.loop-number-test.false (some_left at.left.now c.is_empty.result c.is_empty.ensures c.if-not-is_empty.true)

pub returns-clause-read : goal.returns-clause-read
returns-clause-read c =
    let at = c.loop-number in
    ended_right c.args.text.now c.args.header.start (head_of c.args.header) at.number at.from at.left.now at.tails.items at.places.items
    at.invariant c.loop-number-test.false (none_left at.left.now c.is_empty.result c.is_empty.ensures c.if-not-is_empty.false)
