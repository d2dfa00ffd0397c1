use Rattle.std.proofs.Common.{◌≡◌, ℕ, ◌<◌, ◌≤◌, Result, Err, refl, arith}
use Rattle.plan_sets.specs.Limits.{end_second}
use Rattle.plan_sets.specs.declared.civil.TheConstants.{END_SECOND}
use Rattle.plan_collect.specs.Span.{Bounds}
use Rattle.plan_collect.specs.declared.SpanFault.{SpanFault}
use Rattle.plan_collect.specs.declared.SpanFault.TheVariants.{Backwards, OutOfYears}
use Rattle.agenda_faults.specs.declared.faults.Failure.TheVariants.{Span}
use Rattle.agenda_answers.specs.Requests.{bounded}
use Rattle.agenda_inputs.specs.Steps.{goes}
use Rattle.agenda_inputs.proofs.StepLemmas.{failed}
use Rattle.agenda_answers.proofs.requests.span_between.Goals as goal

no_span :
    (since upto : ℕ) (fault : SpanFault) (made : Result Bounds SpanFault) → made ≡ Err fault → upto ≤ end_second →
    (made ≡ Err Backwards → upto < since) → (made ≡ Err OutOfYears → (since ≤ upto) × (END_SECOND < upto)) →
    bounded since upto (Err (Span fault))
no_span since upto Backwards made is within backwards out = (refl, backwards is)
no_span since upto OutOfYears made is within backwards out = absurd (omega (arith, within, (out is).1))

pub returns-in_err-begin : goal.returns-in_err-begin
returns-in_err-begin c = failed _ _ c.in_err-begin.ensures c.from_residual.ensures.1

pub returns-in_err-end : goal.returns-in_err-end
returns-in_err-end c = goes _ c.in_ok-begin.ensures (failed _ _ c.in_err-end.ensures c.from_residual-in_err-end.ensures.1)

pub returns-in-Ok : goal.returns-in-Ok
returns-in-Ok c = goes _ c.in_ok-begin.ensures (goes _ c.in_ok-end.ensures c.in-Ok.ensures.span)

pub returns-in-Err : goal.returns-in-Err
returns-in-Err c =
    goes _ c.in_ok-begin.ensures (goes _ c.in_ok-end.ensures
    (no_span c.in_ok-begin.begin c.in_ok-end.end c.in-Err.fault (Err c.in-Err.fault) refl c.in_ok-end.ensures.0
    c.in-Err.ensures.backwards.0 c.in-Err.ensures.out_of_years.0))
