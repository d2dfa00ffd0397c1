use Rattle.std.proofs.Common.{◌≡◌, ap, refl, subst, ◌∙◌}
use Rattle.agenda_faults.specs.declared.faults.Failure.TheVariants.{Run}
use Rattle.agenda_faults.specs.declared.faults.RunFault.TheVariants as run
use Rattle.plan_tree.specs.Tree.{below}
use Rattle.agenda_answers.specs.Machine.{has_system}
use Rattle.agenda_inputs.specs.Steps.{goes}
use Rattle.agenda_inputs.proofs.StepLemmas.{failed}
use Rattle.agenda_answers.proofs.machine.machine_of.Goals as goal

pub returns-in_err-is : goal.returns-in_err-is
returns-in_err-is g c = failed _ (Run run.NoMemory) refl c.from_residual.ensures.1

pub returns-in_err-has : goal.returns-in_err-has
returns-in_err-has g c = goes _ (λ known. c.in_ok-is.ensures known) (failed _ (Run run.NoMemory) refl c.from_residual-in_err-has.ensures.1)

pub returns-in_err-root_if : goal.returns-in_err-root_if
returns-in_err-root_if g c =
    let same = c.new-below.ensures ∙ ap (λ root. below root (g.T.Tree.held c.args.tree.now)) c.root_of.ensures in
    goes _ (λ known. c.in_ok-is.ensures known)
    (goes _ (λ known. subst (λ held. c.in_ok-has.has ≡ has_system held) same (c.in_ok-has.ensures known))
    (failed _ _ c.in_err-root_if.ensures c.from_residual-in_err-root_if.ensures.1))

pub returns : goal.returns
returns g c =
    let same = c.new-below.ensures ∙ ap (λ root. below root (g.T.Tree.held c.args.tree.now)) c.root_of.ensures in
    goes _ (λ known. c.in_ok-is.ensures known)
    (goes _ (λ known. subst (λ held. c.in_ok-has.has ≡ has_system held) same (c.in_ok-has.ensures known))
    (goes _ c.in_ok-root_if.ensures c.machine_below.ensures))
