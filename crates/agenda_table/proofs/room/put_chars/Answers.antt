use Rattle.std.proofs.Common.{◌≡◌, ◌∷◌, ◌++◌, [], ℕ, List, ap, refl, sym, subst, ◌∙◌}
use Rattle.std.proofs.lemmas.Iterator.{YieldsList-from_chars}
use Rattle.std.proofs.lemmas.Iterator.Consumers.{YieldsList-end}
use Rattle.std.proofs.lemmas.List.{map-id}
use Rattle.std.specs.Str.{chars}
use Rattle.plan_streams.proofs.StreamLemmas.{takes_both, takes_none}
use Rattle.plan_streams.specs.Writer.{Takes}
use Rattle.agenda_table.specs.Room.{kept, kept_char, room_after, room_behind, shown_bytes}
use Rattle.agenda_table.specs.declared.room.Room.{Room}
use Rattle.agenda_table.proofs.RoomLemmas.{kept_more, room_behind_both}
use Rattle.agenda_table.proofs.room.put_chars.Goals as goal

pub loop-c-init : goal.loop-c-init
unfolding shown_bytes
loop-c-init g c = (takes_none g.S.Stream.holds g.S.Stream.takes_all c.args.lines.now, refl)

pub loop-c-preserved : goal.loop-c-preserved
loop-c-preserved g c =
    let seen = c.loop-c.yielded in
    let next = c.in-Some.c in
    let room = c.loop-c.invariant.1 in
    let taken = subst (λ (room : Room). Takes g.S.Stream.holds g.S.Stream.takes_all c.loop-c.lines c.put_char-room.new.lines
    (shown_bytes c.args.terminal (kept_char room next))) room c.put_char-room.ensures.text in (
      takes_both g.S.Stream.holds g.S.Stream.takes_all c.args.lines.now c.loop-c.lines c.put_char-room.new.lines
          (shown_bytes c.args.terminal (kept c.args.room seen))
          (shown_bytes c.args.terminal (kept_char (room_behind c.args.room seen) next))
          (shown_bytes c.args.terminal (kept c.args.room (seen ++ next ∷ []))) c.loop-c.invariant.0 taken
          (kept_more c.args.terminal c.args.room seen next),
      c.put_char-room.ensures.room ∙ ap (λ (room : Room). room_after room next) room
          ∙ sym (room_behind_both c.args.room seen (next ∷ [])),
    )

pub returns-clause-text : goal.returns-clause-text
returns-clause-text g c =
    let text = c.args.text.now in
    let t = YieldsList-end (YieldsList-from_chars text c.utf8.text cc) c.loop-c.yielded _ c.loop-c.yielded_by _ _ c.in-None.is
    c.next.ensures.steps in
    let all : c.loop-c.yielded ≡ chars text = sym (map-id c.loop-c.yielded) ∙ t.0 in
    subst (λ (cs : List ℕ). Takes g.S.Stream.holds g.S.Stream.takes_all c.args.lines.now c.loop-c.lines
    (shown_bytes c.args.terminal (kept c.args.room cs))) all c.loop-c.invariant.0

pub returns-clause-room : goal.returns-clause-room
returns-clause-room g c =
    let text = c.args.text.now in
    let t = YieldsList-end (YieldsList-from_chars text c.utf8.text cc) c.loop-c.yielded _ c.loop-c.yielded_by _ _ c.in-None.is
    c.next.ensures.steps in
    let all : c.loop-c.yielded ≡ chars text = sym (map-id c.loop-c.yielded) ∙ t.0 in
    c.loop-c.invariant.1 ∙ ap (λ (cs : List ℕ). room_behind c.args.room cs) all
