use Rattle.std.proofs.Common.{◌++◌, refl, ap, ◌∙◌, append_assoc}
use Rattle.plan_streams.proofs.StreamLemmas.{takes_both, takes_waiting}
use Rattle.plan_streams.proofs.writer.TextWriter.put_both.Goals as goal

pub returns-then-has_room : goal.returns-then-has_room
returns-then-has_room g c =
    takes_waiting g.S.Stream.holds g.S.Stream.takes_all c.args.self.now c.append-then-has_room.new.self
    (c.args.first.now ++ c.args.second.now)
    (c.append-then-has_room.ensures ∙ ap (λ waiting. waiting ++ c.args.second.now) c.append.ensures
    ∙ append_assoc c.args.self.now.waiting c.args.first.now c.args.second.now)

pub returns-else-has_room : goal.returns-else-has_room
returns-else-has_room g c =
    takes_both g.S.Stream.holds g.S.Stream.takes_all c.args.self.now c.put.new.self c.put-else-has_room.new.self
    c.args.first.now c.args.second.now _ c.put.ensures c.put-else-has_room.ensures refl
