use Rattle.std.proofs.Common.{◌≡◌, ◌+◌, ◌++◌, append-nil, drop, map, ap, sym, ◌∙◌}
use Rattle.std.proofs.lemmas.List.{drop_all}
use Rattle.plan_check.specs.TimerWarnings.{notes_from}
use Rattle.plan_check.proofs.NoteLemmas.{note_more}
use Rattle.plan_check.proofs.timer_warnings.add_each_note.Goals as goal

pub loop-place-preserved : goal.loop-place-preserved
loop-place-preserved c =
    note_more (λ line. line.now) c.args.lines.now c.loop-place.place _ _ _ _ _ c.loop-place-test.true
    (c.in_ok-note.ensures ∙ c.line_note.ensures)
    c.in_ok-add_detailed.ensures c.loop-place.invariant

pub returns : goal.returns
returns c =
    let found = c.loop-place.found.items in
    sym (append-nil found)
    ∙ ap (λ left. found ++ notes_from (c.loop-place.place + 1) (map (λ line. line.now) left))
    (sym (drop_all c.loop-place.place c.args.lines.now c.loop-place-test.false))
    ∙ c.loop-place.invariant
