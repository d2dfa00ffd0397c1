use Rattle.std.proofs.Common.{refl}
use Rattle.agenda_commands.proofs.PrepareLemmas.{passed_at_once}
use Rattle.agenda_commands.proofs.remark.prepare_remarked.Goals as goal

pub returns-in_err-remarked-clause-at_once : goal.returns-in_err-remarked-clause-at_once
returns-in_err-remarked-clause-at_once g c =
    rw (← c.in_ok-check.ensures)
    (passed_at_once _ _ _ _ refl c.in_err-remarked.ensures.at_once c.from_residual-in_err-remarked.ensures.1)
