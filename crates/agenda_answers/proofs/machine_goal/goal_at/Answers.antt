use Rattle.std.proofs.Common.{refl}
use Rattle.agenda_inputs.specs.Steps.{goes}
use Rattle.agenda_inputs.proofs.StepLemmas.{failed, not_computed}
use Rattle.agenda_answers.proofs.machine_goal.goal_at.Goals as goal

pub returns-in_err-now-clause-read : goal.returns-in_err-now-clause-read
returns-in_err-now-clause-read g c = failed _ _ c.in_err-now.ensures.value c.from_residual.ensures.1

pub returns-in_err-after-in-Upcoming-clause-read : goal.returns-in_err-after-in-Upcoming-clause-read
returns-in_err-after-in-Upcoming-clause-read g c =
    goes c.in_ok-now.now c.in_ok-now.ensures.value (rw c.in-Upcoming.is
    (failed _ _ c.in_err-after-in-Upcoming.ensures.read c.from_residual-in_err-after-in-Upcoming.ensures.1))

pub returns-in_ok-after-in-Upcoming-clause-read : goal.returns-in_ok-after-in-Upcoming-clause-read
returns-in_ok-after-in-Upcoming-clause-read g c =
    goes c.in_ok-now.now c.in_ok-now.ensures.value (rw c.in-Upcoming.is
    (goes c.in_ok-after-in-Upcoming.after c.in_ok-after-in-Upcoming.ensures.read refl))

pub returns-in_err-after-in-Scripts-clause-read : goal.returns-in_err-after-in-Scripts-clause-read
returns-in_err-after-in-Scripts-clause-read g c =
    goes c.in_ok-now.now c.in_ok-now.ensures.value (rw c.in-Scripts.is
    (failed _ _ c.in_err-after-in-Scripts.ensures.read c.from_residual-in_err-after-in-Scripts.ensures.1))

pub returns-in_ok-after-in-Scripts-clause-read : goal.returns-in_ok-after-in-Scripts-clause-read
returns-in_ok-after-in-Scripts-clause-read g c =
    goes c.in_ok-now.now c.in_ok-now.ensures.value (rw c.in-Scripts.is
    (goes c.in_ok-after-in-Scripts.after c.in_ok-after-in-Scripts.ensures.read refl))

pub returns-in_err-span-in-Plan-clause-read : goal.returns-in_err-span-in-Plan-clause-read
returns-in_err-span-in-Plan-clause-read g c =
    goes c.in_ok-now.now c.in_ok-now.ensures.value (rw c.in-Plan.is
    (failed _ _ c.in_err-span-in-Plan.ensures c.from_residual-in_err-span-in-Plan.ensures.1))

pub returns-in_err-span-in-Plan-2-clause-read : goal.returns-in_err-span-in-Plan-2-clause-read
returns-in_err-span-in-Plan-2-clause-read g c =
    goes c.in_ok-now.now c.in_ok-now.ensures.value (rw c.in-Plan.is
    (goes c.in_ok-span-in-Plan.span c.in_ok-span-in-Plan.ensures
    (failed _ _ c.in_err-span-in-Plan-2.ensures c.from_residual-in_err-span-in-Plan-2.ensures.1)))

pub returns-in_err-sizes-in-Plan-clause-read : goal.returns-in_err-sizes-in-Plan-clause-read
returns-in_err-sizes-in-Plan-clause-read g c =
    goes c.in_ok-now.now c.in_ok-now.ensures.value (rw c.in-Plan.is
    (goes c.in_ok-span-in-Plan.span c.in_ok-span-in-Plan.ensures
    (goes c.in_ok-span-in-Plan-2.span c.in_ok-span-in-Plan-2.ensures
    (failed _ _ c.in_err-sizes-in-Plan.ensures c.from_residual-in_err-sizes-in-Plan.ensures.1))))

pub returns-in_ok-sizes-in-Plan-clause-read : goal.returns-in_ok-sizes-in-Plan-clause-read
returns-in_ok-sizes-in-Plan-clause-read g c =
    goes c.in_ok-now.now c.in_ok-now.ensures.value (rw c.in-Plan.is
    (goes c.in_ok-span-in-Plan.span c.in_ok-span-in-Plan.ensures
    (goes c.in_ok-span-in-Plan-2.span c.in_ok-span-in-Plan-2.ensures
    (goes c.in_ok-sizes-in-Plan.sizes c.in_ok-sizes-in-Plan.ensures refl))))

pub returns-in_err-span-in-Quiet-clause-read : goal.returns-in_err-span-in-Quiet-clause-read
returns-in_err-span-in-Quiet-clause-read g c =
    goes c.in_ok-now.now c.in_ok-now.ensures.value (rw c.in-Quiet.is
    (failed _ _ c.in_err-span-in-Quiet.ensures c.from_residual-in_err-span-in-Quiet.ensures.1))

pub returns-in_err-least-in-Quiet-clause-read : goal.returns-in_err-least-in-Quiet-clause-read
returns-in_err-least-in-Quiet-clause-read g c =
    goes c.in_ok-now.now c.in_ok-now.ensures.value (rw c.in-Quiet.is (goes c.in_ok-span-in-Quiet.span c.in_ok-span-in-Quiet.ensures
    (failed _ _ c.in_err-least-in-Quiet.ensures c.from_residual-in_err-least-in-Quiet.ensures.1)))

pub returns-in_err-sizes-in-Quiet-clause-read : goal.returns-in_err-sizes-in-Quiet-clause-read
returns-in_err-sizes-in-Quiet-clause-read g c =
    goes c.in_ok-now.now c.in_ok-now.ensures.value (rw c.in-Quiet.is (goes c.in_ok-span-in-Quiet.span c.in_ok-span-in-Quiet.ensures
    (goes c.in_ok-least-in-Quiet.least c.in_ok-least-in-Quiet.ensures
    (failed _ _ c.in_err-sizes-in-Quiet.ensures c.from_residual-in_err-sizes-in-Quiet.ensures.1))))

pub returns-in_ok-sizes-in-Quiet-clause-read : goal.returns-in_ok-sizes-in-Quiet-clause-read
returns-in_ok-sizes-in-Quiet-clause-read g c =
    goes c.in_ok-now.now c.in_ok-now.ensures.value (rw c.in-Quiet.is (goes c.in_ok-span-in-Quiet.span c.in_ok-span-in-Quiet.ensures
    (goes c.in_ok-least-in-Quiet.least c.in_ok-least-in-Quiet.ensures
    (goes c.in_ok-sizes-in-Quiet.sizes c.in_ok-sizes-in-Quiet.ensures refl))))

pub returns-in_err-before-in-Changes-clause-read : goal.returns-in_err-before-in-Changes-clause-read
returns-in_err-before-in-Changes-clause-read g c =
    goes c.in_ok-now.now c.in_ok-now.ensures.value (rw c.in-Changes.is
    (failed _ _ (rw c.as_str.ensures at c.in_err-before-in-Changes.ensures.read) c.from_residual-in_err-before-in-Changes.ensures.1))

pub returns-in_err-sizes-in-Changes-clause-read : goal.returns-in_err-sizes-in-Changes-clause-read
returns-in_err-sizes-in-Changes-clause-read g c =
    goes c.in_ok-now.now c.in_ok-now.ensures.value (rw c.in-Changes.is
    (goes c.in_ok-before-in-Changes.before (rw c.as_str.ensures at c.in_ok-before-in-Changes.ensures.read)
    (failed _ _ c.in_err-sizes-in-Changes.ensures c.from_residual-in_err-sizes-in-Changes.ensures.1)))

pub returns-in_err-goal-in-Changes-clause-read : goal.returns-in_err-goal-in-Changes-clause-read
returns-in_err-goal-in-Changes-clause-read g c =
    goes c.in_ok-now.now c.in_ok-now.ensures.value (rw c.in-Changes.is
    (goes c.in_ok-before-in-Changes.before (rw c.as_str.ensures at c.in_ok-before-in-Changes.ensures.read)
    (goes c.in_ok-sizes-in-Changes.sizes c.in_ok-sizes-in-Changes.ensures
    (not_computed _ _ c.from_residual-in_err-goal-in-Changes.ensures.1))))

pub returns-in_ok-goal-in-Changes-clause-read : goal.returns-in_ok-goal-in-Changes-clause-read
returns-in_ok-goal-in-Changes-clause-read g c =
    goes c.in_ok-now.now c.in_ok-now.ensures.value (rw c.in-Changes.is
    (goes c.in_ok-before-in-Changes.before (rw c.as_str.ensures at c.in_ok-before-in-Changes.ensures.read)
    (goes c.in_ok-sizes-in-Changes.sizes c.in_ok-sizes-in-Changes.ensures c.in_ok-goal-in-Changes.ensures)))
