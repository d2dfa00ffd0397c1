use Rattle.std.proofs.Common.{◌≡◌, ◌∷◌, ◌++◌, [], ℕ, ◌+◌, List, ap, refl, sym, replicate, subst, append-nil, ◌∙◌}
use Rattle.std.proofs.lemmas.Grind.{replicate_next}
use Rattle.plan_streams.proofs.StreamLemmas.{takes_none}
use Rattle.plan_streams.specs.Writer.{Takes}
use Rattle.agenda_table.specs.Room.{kept, kept_char, room_after, room_behind, shown_bytes}
use Rattle.agenda_table.specs.declared.room.Room.{Room}
use Rattle.agenda_table.proofs.LineLemmas.{takes_kept}
use Rattle.agenda_table.proofs.RoomLemmas.{room_behind_both}
use Rattle.agenda_table.proofs.line.put_blanks.Goals as goal

pub loop-put-init : goal.loop-put-init
unfolding shown_bytes
loop-put-init g c = (takes_none g.S.Stream.holds g.S.Stream.takes_all c.args.lines.now, refl)

pub loop-put-preserved : goal.loop-put-preserved
loop-put-preserved g c =
    let n = c.loop-put._put in
    let more : replicate (n + 1) 32 ≡ replicate n 32 ++ 32 ∷ [] = replicate_next n 32 in
    let one = subst (λ (text : List ℕ). Takes g.S.Stream.holds g.S.Stream.takes_all c.loop-put.lines c.put_char-room.new.lines
    (shown_bytes c.args.terminal text)) (sym (append-nil (kept_char c.loop-put.room 32))) c.put_char-room.ensures.text in (
      subst (λ (text : List ℕ). Takes g.S.Stream.holds g.S.Stream.takes_all c.args.lines.now c.put_char-room.new.lines
          (shown_bytes c.args.terminal (kept c.args.room text))) (sym more)
          (takes_kept g.S.Stream.holds g.S.Stream.takes_all c.args.terminal c.args.lines.now c.loop-put.lines
          c.put_char-room.new.lines c.args.room c.loop-put.room (replicate n 32) (32 ∷ []) c.loop-put.invariant.0
          c.loop-put.invariant.1 one),
      c.put_char-room.ensures.room ∙ ap (λ (room : Room). room_after room 32) c.loop-put.invariant.1
          ∙ sym (room_behind_both c.args.room (replicate n 32) (32 ∷ [])) ∙ ap (λ (text : List ℕ). room_behind c.args.room text) (sym more),
    )
