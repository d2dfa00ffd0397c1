use Rattle.plan_mailbox.proofs.Histories.{in_order-whole}
use Rattle.plan_mailbox.proofs.Orders.{IsInOrder-lawful, SendsBeforeClose-lawful}
use Rattle.plan_mailbox.proofs.laws.takes_what_was_sent.Goals as goal

pub returns-clause-prefix : goal.returns-clause-prefix
returns-clause-prefix g c = in_order-whole

pub returns-clause-in_order : goal.returns-clause-in_order
returns-clause-in_order g c = IsInOrder-lawful

pub returns-clause-closed : goal.returns-clause-closed
returns-clause-closed g c = SendsBeforeClose-lawful
