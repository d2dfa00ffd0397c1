use Rattle.std.proofs.Common.{◌≡◌, ℕ, ◌≤◌, length}
use Rattle.plan_spans.specs.Spans.{finite_sum, infinity}
use Rattle.plan_spans.proofs.SpanLemmas.{sum_with}
use Rattle.plan_spans.proofs.span.sum_of_pairs.Given as goal

-- the pairs that are left complete the sum
abbrev pub invariant-loop-rest : goal.invariant-loop-rest
invariant-loop-rest l = (most : ℕ) × (length l.rest ≤ most) × (l.sum ≤ infinity) × (sum_with l.sum l.rest most ≡ finite_sum l.text)

abbrev pub decreases-loop-rest : goal.decreases-loop-rest
decreases-loop-rest l = length l.rest
