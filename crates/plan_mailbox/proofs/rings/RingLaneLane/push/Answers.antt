use Rattle.std.proofs.Common.{append_assoc}
use Rattle.std.proofs.lemmas.List.{append_cancel_left}
use Rattle.plan_mailbox.proofs.rings.RingLaneLane.push.Goals as goal
use Rattle.std.proofs.Common.{arith}
use Rattle.std.proofs.lemmas.Bool.Decides.{nat_tests}

pub returns-clause-waits : goal.returns-clause-waits
returns-clause-waits g c = grind (arith, nat_tests, append_cancel_left, append_assoc)
