-- If the message is sent, only one lane is written: its messages are those of before and this one, and it stays open.
use Rattle.std.proofs.Common.{◌≡◌, ◌<◌, [], length, ap, arith, rules}
use Rattle.std.proofs.lemmas.Grind.{common_steps}
use Rattle.std.proofs.lemmas.List.{map-set}
use Rattle.plan_mailbox.specs.declared.replies.Reply.TheVariants.{Sent}
use Rattle.plan_mailbox.specs.Mailbox.{send_reply, sending, waiting_at}
use Rattle.plan_mailbox.specs.Lanes.{mailbox_of}
use Rattle.plan_mailbox.proofs.Places.{map_read, map_set_same}
use Rattle.plan_mailbox.proofs.lanes.LanesPost.send.Goals as goal

pub returns-clause-after : goal.returns-clause-after
returns-clause-after g c =
    let before = mailbox_of c.args.self.now in
    let items = c.args.self.now.lanes.items in
    let lane = c.index_mut.result.now in
    let pushed = c.push.new.self in
    let known : c.args.sender < length items = search rules in
    let sent : Sent ≡ send_reply before c.args.sender c.args.message = grind (arith, common_steps) in
    let was : waiting_at before c.args.sender ≡ g.L.Lane.waiting lane =
    map_read g.L.Lane.waiting items c.args.sender lane [] known c.index_mut.ensures.value in
    let waits = map-set g.L.Lane.waiting items c.args.sender pushed in
    let marks_stay = map_set_same g.L.Lane.closed items c.args.sender pushed lane known c.index_mut.ensures.value
    c.push.ensures.closed_stays in
    rw (waits, marks_stay, c.push.ensures.waits, ← was) (ap (sending before c.args.sender c.args.message) sent)
