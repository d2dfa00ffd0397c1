use Rattle.std.proofs.Common.{◌≤◌, arith}
use Rattle.std.proofs.lemmas.List.{length-map}
use Rattle.plan_mailbox.specs.Lanes.{mailbox_of}
use Rattle.plan_mailbox.specs.Mailbox.{most_senders, senders_of}
use Rattle.plan_mailbox.proofs.LockedReplies.{take-replies}
use Rattle.plan_mailbox.proofs.locked.next.Goals as goal

pub returns-in_default : goal.returns-in_default
returns-in_default g c =
    let core = c.args.core.now in
    let few : senders_of (mailbox_of core) ≤ most_senders = simp length-map (omega (arith, core.few_senders, core.lanes.ok)) in
    let both = take-replies (mailbox_of core) c.take.result few c.take.ensures.reply c.in_default.not-Nothing in
    record { reply = both.0; answer = both.1; after = c.take.ensures.after }
