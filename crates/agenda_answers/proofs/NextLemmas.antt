-- How `next` of a machine ends with an error that isn't that of the rule.
use Rattle.std.proofs.Common.{◌≢◌, ℕ, [], Err, refl}
use Rattle.plan_rules.specs.declared.RuleFault.{RuleFault}
use Rattle.agenda_faults.specs.declared.faults.Failure.TheVariants.{Run}
use Rattle.agenda_faults.specs.declared.faults.RunFault.{RunFault}
use Rattle.agenda_faults.specs.declared.faults.RunFault.TheVariants.{Rule}
use Rattle.agenda_sources.specs.declared.Asked.{Asked}
use Rattle.agenda_answers.specs.Answer.{Exits, StreamChange}
use Rattle.agenda_answers.specs.MachineNext.{ExitsInWords}

pub exits_plainly :
    (asked : Asked) (fault : RunFault) (status : ℕ) (err : StreamChange) → ((rule : RuleFault) → fault ≢ Rule rule) →
    Exits [] (Err (Run fault)) status err → ExitsInWords asked (Err fault) status err
exits_plainly asked (Rule rule) status err not is = absurd (not rule refl)
exits_plainly asked other status err not is = is
