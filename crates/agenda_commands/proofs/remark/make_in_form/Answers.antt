use Rattle.std.proofs.Common.{refl}
use Rattle.agenda_commands.proofs.PrepareLemmas.{passed_at_once}
use Rattle.agenda_commands.proofs.remark.make_in_form.Goals as goal

pub returns-in_err-made-in-Table-clause-at_once : goal.returns-in_err-made-in-Table-clause-at_once
returns-in_err-made-in-Table-clause-at_once g c =
    passed_at_once _ _ _ _ refl c.in_err-made-in-Table.ensures.at_once c.from_residual.ensures.1
