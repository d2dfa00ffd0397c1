use Rattle.plan_parts.proofs.OriginLemmas.{IsReached}
use Rattle.plan_parts.proofs.origin.found_origin.Given as goal

abbrev pub invariant-loop-place : goal.invariant-loop-place
invariant-loop-place l = IsReached l.parts l.line l.place l.left
