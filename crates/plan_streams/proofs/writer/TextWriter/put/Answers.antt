use Rattle.std.proofs.Common.{◌≡◌, [], refl, sym, subst}
use Rattle.plan_streams.specs.Writer.{Takes}
use Rattle.plan_streams.proofs.StreamLemmas.{takes_both, takes_none, takes_waiting, takes_written}
use Rattle.plan_streams.proofs.writer.TextWriter.put.Goals as goal
use Rattle.plan_streams.proofs.writer.TextWriter.put.Goals.{then-not-has_room, else-not-has_room, After-has_room-2}

-- before the second test the writer has taken the empty text
takes_first : (g : _) (c : After-has_room-2 g) → Takes g.S.Stream.holds g.S.Stream.takes_all c.args.self.now c.if-not-has_room.self []
takes_first g c = elim c.if-not-has_room.branch [
  | then-not-has_room w ↦ subst (λ s. Takes g.S.Stream.holds g.S.Stream.takes_all c.args.self.now s []) (sym w.self-is)
      w.write_waiting.ensures.same_texts
  | else-not-has_room w ↦ subst (λ s. Takes g.S.Stream.holds g.S.Stream.takes_all c.args.self.now s []) (sym w.self-is)
      (takes_none g.S.Stream.holds g.S.Stream.takes_all c.args.self.now)
]

pub returns-then-has_room : goal.returns-then-has_room
returns-then-has_room g c =
    let first = c.if-not-has_room.self in
    takes_both g.S.Stream.holds g.S.Stream.takes_all c.args.self.now first (record first { waiting = c.append.new.self })
    [] c.args.text.now c.args.text.now (takes_first g (goal.at.returns-then-has_room g c).After-has_room-2)
    (takes_waiting g.S.Stream.holds g.S.Stream.takes_all first c.append.new.self c.args.text.now c.append.ensures) refl

pub returns-else-has_room : goal.returns-else-has_room
returns-else-has_room g c =
    let first = c.if-not-has_room.self in
    let last = record first { out = record first.out { now = c.put_part-self.new.out }; state = c.put_part-self.result } in
    let none : first.waiting ≡ [] = elim c.if-not-has_room.branch [ then-not-has_room w ↦ cc | else-not-has_room w ↦ cc ] in
    takes_both g.S.Stream.holds g.S.Stream.takes_all c.args.self.now first last [] c.args.text.now c.args.text.now
    (takes_first g (goal.at.returns-else-has_room g c).After-has_room-2)
    (takes_written g.S.Stream.holds g.S.Stream.takes_all first last c.args.text.now refl none none c.put_part-self.ensures) refl
