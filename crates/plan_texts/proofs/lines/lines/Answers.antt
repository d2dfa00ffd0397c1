-- Answers the clauses `value`, `again`, `no_newline` and `few` of `lines`; the last three follow from `value`.
-- For `value`: the iterator collects `slice_split` at newlines. To drop an empty last piece, or to keep a piece that
-- isn't empty, is `without_empty_end` (`dropped_where_empty`).
use Rattle.std.proofs.Common.{rules, tests, lit<, ◌≡◌, ◌-◌, ◌==◌, length, map, take, cond, ap, sym, ◌∙◌, arith}
use Rattle.std.proofs.lemmas.Iterator.Consumers.{map_from_collect}
use Rattle.std.proofs.lemmas.Iterator.Splits.{YieldsList-from_str_split}
use Rattle.std.proofs.lemmas.Result.{IfOk-at_ok}
use Rattle.std.specs.List.{slice_get, slice_split}
use Rattle.std.proofs.lemmas.List.{length-map}
use Rattle.std.proofs.lemmas.List.Elements.{All-same}
use Rattle.plan_texts.specs.Lines.{lines, without_empty_end, written, HasNoNewline}
use Rattle.plan_texts.proofs.LinesLemmas.{dropped_where_empty, written-lines, none_in_lines, length-lines}
use Rattle.plan_texts.proofs.lines.lines.Goals as goal
use Rattle.plan_texts.proofs.lines.lines.Goals.{then-is_some_and, else-is_some_and}

pub returns-clause-value : goal.returns-clause-value
unfolding lines
returns-clause-value c =
    let split : map (λ line. line.now) c.in_ok-lines.lines.items ≡ slice_split (λ b. b == 10) c.args.text.now =
    IfOk-at_ok (λ found. map (λ line. line.now) found.items ≡ slice_split (λ b. b == 10) c.args.text.now) c.in_ok-lines.was
    (map_from_collect c.collect.result c.collect.ensures.ran
    (YieldsList-from_str_split 10 c.args.text.now (lit< tt) c.split.ensures.text c.split.ensures.has_more c.split.ensures.pattern)) in
    let left = dropped_where_empty (λ line. line.now) (λ line. line.now) c.in_ok-lines.lines.items c.last.result c.is_some_and.result
    (c.last.ensures.value ∙ ap (λ pieces. slice_get pieces (length pieces - 1)) c.deref.ensures.value) (search (rules, tests))
    ∙ ap without_empty_end split in
    elim c.if-is_some_and.branch [
      | then-is_some_and w ↦
          ap (λ found. map (λ line. line.now) found.items) w.lines-is ∙ ap (map (λ line. line.now))
          (w.pop.ensures.rest ∙ ap (λ n. take (n - 1) c.in_ok-lines.lines.items)
          (sym c.deref.ensures.len ∙ ap length c.deref.ensures.value))
          ∙ ap (λ b. map (λ line. line.now)
          (cond b (take (length c.in_ok-lines.lines.items - 1) c.in_ok-lines.lines.items) c.in_ok-lines.lines.items))
          (sym w.if-is_some_and.true) ∙ left
      | else-is_some_and w ↦
          ap (λ found. map (λ line. line.now) found.items) w.lines-is
          ∙ ap (λ b. map (λ line. line.now)
          (cond b (take (length c.in_ok-lines.lines.items - 1) c.in_ok-lines.lines.items) c.in_ok-lines.lines.items))
          (sym w.if-is_some_and.false) ∙ left
    ]

pub returns-clause-again : goal.returns-clause-again
returns-clause-again c = ap written (returns-clause-value c) ∙ written-lines c.args.text.now

pub returns-clause-no_newline : goal.returns-clause-no_newline
returns-clause-no_newline c = All-same HasNoNewline _ _ (returns-clause-value c) (none_in_lines c.args.text.now)

pub returns-clause-few : goal.returns-clause-few
returns-clause-few c =
    let same = sym (length-map _ (λ line. line.now)) ∙ ap length (returns-clause-value c) in
    omega (arith, length-lines c.args.text.now)
