use Rattle.std.proofs.Common.{IfNone, IfSome, ap, refl, subst, ◌∙◌}
use Rattle.agenda_faults.specs.declared.faults.Failure.TheVariants.{Run}
use Rattle.agenda_faults.specs.declared.faults.RunFault.TheVariants as run
use Rattle.plan_machine.specs.Machine.{AreTooManyUnits, IsMachine}
use Rattle.plan_tree.specs.Tree.{below}
use Rattle.agenda_inputs.specs.Files.{most_read}
use Rattle.agenda_answers.specs.Machine.{tree_below}
use Rattle.agenda_machine.specs.Root.{root_of}
use Rattle.agenda_inputs.specs.Steps.{goes}
use Rattle.agenda_answers.proofs.MachineLemmas.{found_either}
use Rattle.agenda_inputs.proofs.StepLemmas.{failed}
use Rattle.agenda_answers.proofs.machine.machine_below.Goals as goal

pub returns-in_err-found : goal.returns-in_err-found
returns-in_err-found g c = failed _ (Run run.NoMemory) refl c.from_residual.ensures.1

pub returns : goal.returns
returns g c =
    let whole = g.T.Tree.held c.args.tree.now in
    let same = c.new-below.ensures ∙ ap (λ root. below root whole) c.root_of.ensures in
    goes _ (λ known. found_either (tree_below (record { is_known = g.T.Tree.is_known; held = whole }) (root_of c.args.dir.now))
    c.args.all c.in_ok-found.found
    (subst (λ held. IfSome c.in_ok-found.found (λ machine. IsMachine held c.args.all most_read machine)) same
    (c.in_ok-found.ensures.found known))
    (subst (λ held. IfNone c.in_ok-found.found (AreTooManyUnits held)) same (c.in_ok-found.ensures.too_many known)))
    c.machine_if.ensures
