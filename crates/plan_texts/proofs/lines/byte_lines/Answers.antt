-- As for `lines`: the pieces at newlines, without an empty last one.
use Rattle.std.proofs.Common.{rules, tests, ◌-◌, length, map, take, cond, ap, sym, ◌∙◌, arith}
use Rattle.std.specs.List.{slice_get}
use Rattle.std.proofs.lemmas.List.{length-map}
use Rattle.plan_texts.specs.Lines.{lines, without_empty_end}
use Rattle.plan_texts.proofs.LinesLemmas.{dropped_where_empty, length-lines}
use Rattle.plan_texts.proofs.lines.byte_lines.Goals as goal
use Rattle.plan_texts.proofs.lines.byte_lines.Goals.{then-is_some_and, else-is_some_and}

pub returns-clause-value : goal.returns-clause-value
unfolding lines
returns-clause-value c =
    let left = dropped_where_empty (λ line. line.now) (λ line. line.now) c.in_ok-lines.lines.items c.last.result c.is_some_and.result
    (c.last.ensures.value ∙ ap (λ pieces. slice_get pieces (length pieces - 1)) c.deref.ensures.value) (search (rules, tests))
    ∙ ap without_empty_end c.in_ok-lines.ensures in
    elim c.if-is_some_and.branch [
      | then-is_some_and w ↦
          ap (λ found. map (λ line. line.now) found.items) w.lines-is ∙ ap (map (λ line. line.now))
          (w.pop.ensures.rest ∙ ap (λ n. take (n - 1) c.in_ok-lines.lines.items)
          (sym c.deref.ensures.len ∙ ap length c.deref.ensures.value))
          ∙ ap (λ b. map (λ line. line.now)
          (cond b (take (length c.in_ok-lines.lines.items - 1) c.in_ok-lines.lines.items) c.in_ok-lines.lines.items))
          (sym w.if-is_some_and.true) ∙ left
      | else-is_some_and w ↦
          ap (λ found. map (λ line. line.now) found.items) w.lines-is
          ∙ ap (λ b. map (λ line. line.now)
          (cond b (take (length c.in_ok-lines.lines.items - 1) c.in_ok-lines.lines.items) c.in_ok-lines.lines.items))
          (sym w.if-is_some_and.false) ∙ left
    ]

pub returns-clause-few : goal.returns-clause-few
returns-clause-few c =
    let same = sym (length-map _ (λ line. line.now)) ∙ ap length (returns-clause-value c) in
    omega (arith, length-lines c.args.text.now)
