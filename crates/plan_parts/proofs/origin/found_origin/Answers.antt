-- The line is in a later part.
use Rattle.std.proofs.Common.{arith}
use Rattle.plan_parts.proofs.OriginLemmas.{reached_later}
use Rattle.plan_parts.proofs.origin.found_origin.Goals as goal

pub loop-place-preserved : goal.loop-place-preserved
loop-place-preserved c =
    reached_later c.args.parts.now c.args.line c.loop-place.place c.loop-place.left c.index-parts-place.result c.lines-lines.result
    c.saturating_sub-left.result c.index-parts-place.is c.lines-lines.ensures c.saturating_sub-left.ensures c.loop-place.invariant
    (omega (arith, c.loop-place-test.true, c.if-place-parts.false)) c.if-left-lines.false
