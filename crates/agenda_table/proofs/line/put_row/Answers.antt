use Rattle.std.proofs.Common.{◌≡◌, ◌++◌, [], ℕ, ◌+◌, ◌≤◌, List, ap, arith, refl, sym, replicate, subst, append-nil, append_assoc, drop, ◌∙◌}
use Rattle.std.specs.Prelude.{◌-◌, length}
use Rattle.std.specs.Str.{chars}
use Rattle.plan_streams.proofs.StreamLemmas.{takes_none}
use Rattle.plan_streams.specs.Writer.{Takes}
use Rattle.agenda_table.specs.Layout.{gap, joined}
use Rattle.agenda_table.specs.Room.{kept, room_behind, shown_bytes}
use Rattle.agenda_table.specs.Widths.{width_at}
use Rattle.agenda_table.specs.declared.room.Room.{Room}
use Rattle.agenda_table.proofs.LineLemmas.{joined_end, joined_next, takes_kept}
use Rattle.agenda_table.proofs.RoomLemmas.{room_behind_both}
use Rattle.agenda_table.proofs.line.put_row.Goals as goal

pub loop-place-init : goal.loop-place-init
unfolding shown_bytes
loop-place-init g c = ([], takes_none g.S.Stream.holds g.S.Stream.takes_all c.args.lines.now, refl, refl)

pub loop-place-preserved : goal.loop-place-preserved
loop-place-preserved g c =
    let holds = g.S.Stream.holds in
    let takes_all = g.S.Stream.takes_all in
    let start = c.args.room in
    let widths = width_at c.args.widths.now in
    let last = c.saturating_sub-last.result in
    let place = c.loop-place.place in
    let row = c.args.row.now in
    let cell = c.index-row-place.result in
    let blanks : List ℕ = replicate (gap widths last place cell) 32 in
    let (done, taken, room, left) = c.loop-place.invariant in
    let same : chars c.text.result.now ≡ cell = c.text.ensures in
    let count : c.gap.result ≡ gap widths last place cell = c.gap.ensures.value in
    let text_taken = subst (λ (text : List ℕ). Takes holds takes_all c.loop-place.lines c.put_text-behind.new.lines
    (shown_bytes c.args.terminal (kept c.loop-place.room text))) same c.put_text-behind.ensures.text in
    let behind : c.put_text-behind.result ≡ room_behind start (done ++ cell) =
    c.put_text-behind.ensures.room ∙ ap (λ (text : List ℕ). room_behind c.loop-place.room text) same
    ∙ ap (λ (room : Room). room_behind room cell) room ∙ sym (room_behind_both start done cell) in
    let first = takes_kept holds takes_all c.args.terminal c.args.lines.now c.loop-place.lines c.put_text-behind.new.lines start
    c.loop-place.room done cell taken room text_taken in
    let blanks_taken = subst (λ (n : ℕ). Takes holds takes_all c.put_text-behind.new.lines c.put_blanks-room.new.lines
    (shown_bytes c.args.terminal (kept c.put_text-behind.result (replicate n 32)))) count c.put_blanks-room.ensures.text in
    let second = takes_kept holds takes_all c.args.terminal c.args.lines.now c.put_text-behind.new.lines
    c.put_blanks-room.new.lines start c.put_text-behind.result (done ++ cell) blanks first behind blanks_taken in
    let room_now : c.put_blanks-room.result ≡ room_behind start ((done ++ cell) ++ blanks) =
    c.put_blanks-room.ensures.room ∙ ap (λ (n : ℕ). room_behind c.put_text-behind.result (replicate n 32)) count
    ∙ ap (λ (room : Room). room_behind room blanks) behind ∙ sym (room_behind_both start (done ++ cell) blanks) in
    let rest = joined widths last (place + 1) (drop (place + 1) row) in
    let now_left : ((done ++ cell) ++ blanks) ++ rest ≡ joined widths last 0 row =
    append_assoc (done ++ cell) blanks rest ∙ append_assoc done cell (blanks ++ rest)
    ∙ ap (λ (text : List ℕ). done ++ text) (sym (joined_next widths last place row cell c.loop-place-test.true c.index-row-place.is))
    ∙ left in
    ((done ++ cell) ++ blanks, second, room_now, now_left)

pub returns : goal.returns
returns g c =
    let widths = width_at c.args.widths.now in
    let last = c.saturating_sub-last.result in
    let row = c.args.row.now in
    let (done, taken, room, left) = c.loop-place.invariant in
    let end : length row ≤ c.loop-place.place = omega arith in
    let all : done ≡ joined widths (length row - 1) 0 row =
    sym (append-nil done) ∙ ap (λ (text : List ℕ). done ++ text) (sym (joined_end widths last c.loop-place.place row end)) ∙ left
    ∙ ap (λ (n : ℕ). joined widths n 0 row) c.saturating_sub-last.ensures in
    subst (λ (text : List ℕ). Takes g.S.Stream.holds g.S.Stream.takes_all c.args.lines.now c.loop-place.lines
    (shown_bytes c.args.terminal (kept c.args.room text))) all taken
