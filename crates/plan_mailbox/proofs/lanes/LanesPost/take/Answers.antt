-- For `reply` and `after` of `Lanes::take`. If a sender was found, the oldest message of its lane is first in line.
-- `after` then rewrites the mailbox's lists by the one write to that lane, and uses `reply`. If none was found, nothing
-- is in line, and the reply depends on whether all lanes are closed.
use Rattle.std.proofs.Common.{◌≡◌, ◌<◌, [], length, subst, ap, sym, ◌∙◌, true, false}
use Rattle.std.specs.List.{list_all}
use Rattle.std.proofs.lemmas.List.{map-set, length-map}
use Rattle.std.proofs.lemmas.List.Folds.{list_all-map}
use Rattle.plan_mailbox.specs.Mailbox.{senders_of, taking_from}
use Rattle.plan_mailbox.specs.Lanes.{mailbox_of}
use Rattle.plan_mailbox.proofs.Places.{map_read, map_set_same}
use Rattle.plan_mailbox.proofs.Calls.{next-found-in, next-none-in, take_reply-found, take_reply-none}
use Rattle.plan_mailbox.proofs.lanes.LanesPost.take.Goals as goal

pub returns-in-Some-clause-reply : goal.returns-in-Some-clause-reply
returns-in-Some-clause-reply g c =
    let before = mailbox_of c.args.self.now in
    let lanes = c.args.self.now.lanes in
    let lane = c.index_mut.result.now in
    let known : c.in-Some.sender < length lanes.items = subst (λ ls. c.in-Some.sender < length ls) c.deref.ensures.value
    c.in-Some.ensures.known in
    let was = map_read g.L.Lane.waiting lanes.items c.in-Some.sender lane [] known c.index_mut.ensures.value in
    sym (take_reply-found before c.in-Some.sender c.pop-message.result
    (next-found-in g.L.Lane.waiting lanes.items c.deref.result.now c.args.self.now.turn c.in-Some.sender c.pop-message.result
    (g.L.Lane.waiting c.pop-message.new.self) c.deref.ensures.value
    (was ∙ c.pop-message.ensures.oldest) c.in-Some.ensures.first))

pub returns-in-Some-clause-after : goal.returns-in-Some-clause-after
returns-in-Some-clause-after g c =
    let before = mailbox_of c.args.self.now in
    let lanes = c.args.self.now.lanes in
    let lane = c.index_mut.result.now in
    let left = c.pop-message.new.self in
    let known : c.in-Some.sender < length lanes.items = subst (λ ls. c.in-Some.sender < length ls) c.deref.ensures.value
    c.in-Some.ensures.known in
    let was = map_read g.L.Lane.waiting lanes.items c.in-Some.sender lane [] known c.index_mut.ensures.value in
    let waits = map-set g.L.Lane.waiting lanes.items c.in-Some.sender left in
    let marks_stay = map_set_same g.L.Lane.closed lanes.items c.in-Some.sender left lane known c.index_mut.ensures.value
    c.pop-message.ensures.closed_stays in
    let many : c.len.result ≡ senders_of before = c.len.ensures ∙ lanes.ok.0 ∙ sym (length-map lanes.items g.L.Lane.waiting) in
    rw (waits, marks_stay, many) (rw (was ∙ c.pop-message.ensures.oldest) at
    (sym (ap (taking_from before) (sym (returns-in-Some-clause-reply g c)))))

pub returns-then-all_closed-clause-reply : goal.returns-then-all_closed-clause-reply
returns-then-all_closed-clause-reply g c =
    let lanes = c.args.self.now.lanes in
    let closed = list_all-map (λ b. b) g.L.Lane.closed lanes.items ∙ ap (list_all g.L.Lane.closed) (sym c.deref-in-None.ensures.value)
    ∙ sym c.all_closed.ensures ∙ c.if-all_closed.true in
    sym (take_reply-none (mailbox_of c.args.self.now) true
    (next-none-in g.L.Lane.waiting lanes.items c.deref.result.now c.args.self.now.turn c.deref.ensures.value
    c.in-None.ensures.first) closed)

pub returns-then-all_closed-clause-after : goal.returns-then-all_closed-clause-after
returns-then-all_closed-clause-after g c = ap (taking_from (mailbox_of c.args.self.now)) (returns-then-all_closed-clause-reply g c)

pub returns-else-all_closed-clause-reply : goal.returns-else-all_closed-clause-reply
returns-else-all_closed-clause-reply g c =
    let lanes = c.args.self.now.lanes in
    let closed = list_all-map (λ b. b) g.L.Lane.closed lanes.items ∙ ap (list_all g.L.Lane.closed) (sym c.deref-in-None.ensures.value)
    ∙ sym c.all_closed.ensures ∙ c.if-all_closed.false in
    sym (take_reply-none (mailbox_of c.args.self.now) false
    (next-none-in g.L.Lane.waiting lanes.items c.deref.result.now c.args.self.now.turn c.deref.ensures.value
    c.in-None.ensures.first) closed)

pub returns-else-all_closed-clause-after : goal.returns-else-all_closed-clause-after
returns-else-all_closed-clause-after g c = ap (taking_from (mailbox_of c.args.self.now)) (returns-else-all_closed-clause-reply g c)
