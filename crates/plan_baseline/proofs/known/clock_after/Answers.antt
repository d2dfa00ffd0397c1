use Rattle.std.proofs.Common.{◌≡◌, ◌++◌, List, ℕ, Bool, not, false, arith, ◌∙◌}
use Rattle.std.proofs.lemmas.Bool.Decides.{nat_tests}
use Rattle.std.proofs.lemmas.Slice.Eq.{bytes_eq-Decides}
use Rattle.std.specs.Str.{bytes_eq}
use Rattle.plan_baseline.proofs.ClockLemmas.{later_time}
use Rattle.plan_baseline.proofs.known.clock_after.Goals as goal

same_text : (a b : List ℕ) (differ : Bool) → differ ≡ not (bytes_eq a b) → differ ≡ false → a ≡ b
same_text a b differ test is = grind (arith, nat_tests, bytes_eq-Decides)

pub returns : goal.returns
returns c =
    let first = c.in-Some.ensures in
    let other = c.in-Some-parts_of.ensures in
    let date = same_text c.in-Some-parts_of.other_date.now c.in-Some.date.now c.ne.result c.ne.ensures c.if-ne.false in
    let zone = same_text c.in-Some-parts_of.other_zone.now c.in-Some.zone.now c.ne-else-ne.result c.ne-else-ne.ensures c.if-ne-2.false in
    later_time c.args.known.now c.args.time.now c.in-Some.date.now c.in-Some.field-0-1.now c.in-Some-parts_of.text.now c.in-Some.zone.now
    c.args.second c.args.clock c.in-Some-clock_of.later first.whole
    (other.whole ∙ (λ i. date i ++ (c.in-Some-parts_of.text.now ++ zone i))) first.date first.clock other.clock c.requires.clock c.requires.time
    (omega (arith, c.if-later-clock.false)) c.in-Some-clock_of.ensures (omega (arith, c.if-second-later-gt-END_SECOND.false))
