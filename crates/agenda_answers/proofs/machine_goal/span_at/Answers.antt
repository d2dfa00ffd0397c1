use Rattle.std.proofs.Common.{◌≡◌, ℕ, ◌<◌, ◌≤◌, List, Result, Err, ap, refl, arith}
use Rattle.plan_clock.specs.declared.row.Change.{Change}
use Rattle.plan_sets.specs.Limits.{end_second}
use Rattle.plan_sets.specs.declared.civil.TheConstants.{END_SECOND}
use Rattle.plan_collect.specs.Span.{Bounds}
use Rattle.plan_collect.specs.declared.SpanFault.{SpanFault}
use Rattle.plan_collect.specs.declared.SpanFault.TheVariants.{Backwards, OutOfYears}
use Rattle.plan_write.specs.LocalTimes.{local_text}
use Rattle.agenda_faults.specs.declared.faults.Failure.{Failure}
use Rattle.agenda_faults.specs.declared.faults.Failure.TheVariants.{Machine}
use Rattle.agenda_faults.specs.declared.machine_faults.MachineFault.TheVariants as machine
use Rattle.agenda_answers.specs.MachineGoal.{bounded_by}
use Rattle.agenda_inputs.specs.Steps.{goes}
use Rattle.agenda_inputs.proofs.StepLemmas.{failed}
use Rattle.agenda_answers.proofs.machine_goal.span_at.Goals as goal

no_span :
    (clock : List Change) (since until : ℕ) (fault : SpanFault) (made : Result Bounds SpanFault) (failure : Failure) → made ≡ Err fault →
    until ≤ end_second → failure ≡ Machine (machine.Backwards (local_text clock since)) → (made ≡ Err Backwards → until < since) →
    (made ≡ Err OutOfYears → (since ≤ until) × (END_SECOND < until)) → bounded_by clock since until (Err failure)
no_span clock since until Backwards made failure is within failed backwards out = (failed, backwards is)
no_span clock since until OutOfYears made failure is within failed backwards out = absurd (omega (arith, within, (out is).1))

pub returns-in_err-since : goal.returns-in_err-since
returns-in_err-since c = failed _ _ c.in_err-since.ensures.read c.from_residual.ensures.1

pub returns-in_err-until : goal.returns-in_err-until
returns-in_err-until c =
    goes c.in_ok-since.since c.in_ok-since.ensures.read
    (failed _ _ c.in_err-until.ensures.read c.from_residual-in_err-until.ensures.1)

pub returns-in-Ok : goal.returns-in-Ok
returns-in-Ok c = goes c.in_ok-since.since c.in_ok-since.ensures.read
    (goes c.in_ok-until.until c.in_ok-until.ensures.read c.in-Ok.ensures.span)

pub returns-in-Err : goal.returns-in-Err
returns-in-Err c =
    goes c.in_ok-since.since c.in_ok-since.ensures.read (goes c.in_ok-until.until c.in_ok-until.ensures.read
    (no_span c.args.clock.now c.in_ok-since.since c.in_ok-until.until c.in-Err.field-0 (Err c.in-Err.field-0)
    (Machine (machine.Backwards c.show.new.self)) refl c.in_ok-until.ensures.years
    (ap (λ text. Machine (machine.Backwards text)) c.show.ensures) c.in-Err.ensures.backwards.0 c.in-Err.ensures.out_of_years.0))
