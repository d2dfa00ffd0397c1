use Rattle.std.proofs.Common.{inl, refl, subst, sym}
use Rattle.agenda_faults.specs.declared.faults.Failure.TheVariants.{File, Run}
use Rattle.agenda_faults.specs.declared.faults.RunFault.TheVariants.{NoMemory}
use Rattle.agenda_inputs.specs.Baselines.{given_path}
use Rattle.agenda_inputs.specs.Files.{MayFail}
use Rattle.agenda_inputs.specs.Steps.{goes, stops}
use Rattle.agenda_inputs.proofs.FileLemmas.{unread_by_kind}
use Rattle.agenda_inputs.proofs.StepLemmas.{failed}
use Rattle.agenda_inputs.proofs.baselines.read_baseline.Goals as goal

pub returns-in_err-from_str-clause-read : goal.returns-in_err-from_str-clause-read
returns-in_err-from_str-clause-read g c = failed _ (Run NoMemory) (inl refl) c.from_residual.ensures.1

pub returns-in-Ok-clause-read : goal.returns-in-Ok-clause-read
returns-in-Ok-clause-read g c = goes _ (rw c.given_path.ensures at c.in-Ok.ensures.bytes) c.listing_in.ensures

pub returns-in-Err-clause-read : goal.returns-in-Err-clause-read
returns-in-Err-clause-read g c =
    let file = g.F.Files.held c.args.files.now (given_path c.args.path.now) in
    stops c.failure_of_kind.result
    (unread_by_kind file (File c.args.path.now) c.failure_of_kind.result c.kind.result
    (subst (λ kind. MayFail file kind) (sym c.kind.ensures) (rw c.given_path.ensures at c.in-Err.ensures.fails))
    (rw (c.new-given.ensures, c.in_ok-from_str.ensures.ok) at c.failure_of_kind.ensures)) refl
