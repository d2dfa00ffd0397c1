use Rattle.std.proofs.Common.{refl}
use Rattle.agenda_commands.proofs.PrepareLemmas.{made_at_once, passed_at_once}
use Rattle.agenda_commands.proofs.remark.make_lines.Goals as goal

pub returns-in_err-made-clause-at_once : goal.returns-in_err-made-clause-at_once
returns-in_err-made-clause-at_once g c = passed_at_once _ _ _ _ refl c.in_err-made.ensures.at_once c.from_residual.ensures.1

pub returns-clause-at_once : goal.returns-clause-at_once
returns-clause-at_once g c = made_at_once _ _ _ c.in_ok-made.ensures.at_once
