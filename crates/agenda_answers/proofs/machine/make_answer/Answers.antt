use Rattle.std.proofs.Common.{refl}
use Rattle.agenda_faults.specs.declared.faults.Failure.TheVariants.{Run}
use Rattle.agenda_faults.specs.declared.faults.RunFault.TheVariants as run
use Rattle.agenda_inputs.specs.Steps.{goes}
use Rattle.agenda_machine.specs.Root.{dir_of, root_of}
use Rattle.agenda_answers.specs.Host.{host_of}
use Rattle.agenda_answers.specs.Machine.{host_below}
use Rattle.agenda_answers.proofs.MachineLemmas.{checked_as_planned, described_as_planned, shown_as_planned}
use Rattle.agenda_inputs.proofs.StepLemmas.{failed}
use Rattle.agenda_answers.proofs.machine.make_answer.Goals as goal

pub returns-in_err-machine : goal.returns-in_err-machine
returns-in_err-machine g c =
    failed _ _ (rw (c.dir_of-dir.ensures, c.as_str.ensures) at c.in_err-machine.ensures) c.from_residual.ensures.1

pub returns-in_err-loaded-in-Jobs : goal.returns-in_err-loaded-in-Jobs
returns-in_err-loaded-in-Jobs g c =
    goes _ (rw (c.dir_of-dir.ensures, c.as_str.ensures) at c.in_ok-machine.ensures)
    (rw c.in-Jobs.is (failed _ (Run run.NoMemory) refl c.from_residual-in_err-loaded-in-Jobs.ensures.1))

pub returns-in_ok-loaded-in-Jobs : goal.returns-in_ok-loaded-in-Jobs
returns-in_ok-loaded-in-Jobs g c =
    goes _ (rw (c.dir_of-dir.ensures, c.as_str.ensures) at c.in_ok-machine.ensures)
    (rw c.in-Jobs.is
    (goes _ (rw (c.new-below.ensures, c.root_of.ensures, c.dir_of-dir.ensures, c.as_str.ensures) at c.in_ok-loaded-in-Jobs.ensures.unplanned)
    (goes _ (rw (c.new-below.ensures, c.root_of.ensures, c.dir_of-dir.ensures, c.as_str.ensures) at c.in_ok-loaded-in-Jobs.ensures.planned)
    (shown_as_planned _ _ _ c.in-Jobs.jobs c.in_ok-machine.machine c.in_ok-loaded-in-Jobs.loaded.machine
    c.in_ok-loaded-in-Jobs.loaded.planned _ c.in_ok-loaded-in-Jobs.ensures.others
    (rw (c.new-below.ensures, c.root_of.ensures, c.dir_of-dir.ensures, c.as_str.ensures) at c.jobs_answer.ensures)))))

pub returns-in_err-loaded-in-Describe : goal.returns-in_err-loaded-in-Describe
returns-in_err-loaded-in-Describe g c =
    goes _ (rw (c.dir_of-dir.ensures, c.as_str.ensures) at c.in_ok-machine.ensures)
    (rw c.in-Describe.is (failed _ (Run run.NoMemory) refl c.from_residual-in_err-loaded-in-Describe.ensures.1))

pub returns-in_ok-loaded-in-Describe : goal.returns-in_ok-loaded-in-Describe
returns-in_ok-loaded-in-Describe g c =
    goes _ (rw (c.dir_of-dir.ensures, c.as_str.ensures) at c.in_ok-machine.ensures)
    (rw c.in-Describe.is
    (goes _ (rw (c.new-below.ensures, c.root_of.ensures, c.dir_of-dir.ensures, c.as_str.ensures) at c.in_ok-loaded-in-Describe.ensures.unplanned)
    (goes _ (rw (c.new-below.ensures, c.root_of.ensures, c.dir_of-dir.ensures, c.as_str.ensures) at c.in_ok-loaded-in-Describe.ensures.planned)
    (described_as_planned _
    (host_below (host_of g.T.Tree.is_known (g.T.Tree.held c.args.host.now.tree.now) c.args.host.now.time c.args.host.now.frame)
    (root_of (dir_of c.args.request.now.root)))
    _ c.in-Describe.describe c.in_ok-machine.machine c.in_ok-loaded-in-Describe.loaded.machine
    c.in_ok-loaded-in-Describe.loaded.planned _ c.in_ok-loaded-in-Describe.ensures.others
    (rw (c.new-below.ensures, c.root_of.ensures, c.dir_of-dir.ensures, c.as_str.ensures) at c.descriptions_answer.ensures)))))

pub returns-in-Sources : goal.returns-in-Sources
returns-in-Sources g c =
    goes _ (rw (c.dir_of-dir.ensures, c.as_str.ensures) at c.in_ok-machine.ensures)
    (rw (c.in-Sources.is, c.dir_of-dir.ensures, c.as_str.ensures) refl)

pub returns-in_err-machine-in-Check : goal.returns-in_err-machine-in-Check
returns-in_err-machine-in-Check g c =
    goes _ (rw (c.dir_of-dir.ensures, c.as_str.ensures) at c.in_ok-machine.ensures)
    (rw c.in-Check.is (failed _ (Run run.NoMemory) refl c.from_residual-in_err-machine-in-Check.ensures.1))

pub returns-in_ok-machine-in-Check : goal.returns-in_ok-machine-in-Check
returns-in_ok-machine-in-Check g c =
    goes _ (rw (c.dir_of-dir.ensures, c.as_str.ensures) at c.in_ok-machine.ensures)
    (rw c.in-Check.is
    (goes _ (rw (c.new-below.ensures, c.root_of.ensures, c.dir_of-dir.ensures, c.as_str.ensures) at c.in_ok-machine-in-Check.ensures.unplanned)
    (checked_as_planned _ _ _ c.in-Check.check c.in_ok-machine.machine c.in_ok-machine-in-Check.machine _
    c.in_ok-machine-in-Check.ensures.others
    (rw (c.new-below.ensures, c.root_of.ensures, c.dir_of-dir.ensures, c.as_str.ensures) at c.check_answer.ensures))))
