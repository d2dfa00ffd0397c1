use Rattle.std.proofs.Common.{Ok, ap, sym}
use Rattle.agenda_commands.proofs.next.zoned_rule.Goals as goal

pub returns : goal.returns
returns c = rw c.in_ok-rule.ensures (ap Ok (sym c.in_ok-in_zone.ensures))
