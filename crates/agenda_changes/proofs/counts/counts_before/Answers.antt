use Rattle.std.proofs.Common.{◌≡◌, length, take, min, replicate, ap, ◌∙◌, arith, length-take}
use Rattle.plan_baseline.specs.Line.{line_of}
use Rattle.plan_changes.proofs.CompareLemmas.{not_past}
use Rattle.agenda_changes.proofs.CountLemmas.{before_more, none_counted, row_few}
use Rattle.agenda_changes.proofs.counts.counts_before.Goals as goal
use Rattle.agenda_changes.proofs.counts.counts_before.Goals.{in-Some, in_default}

pub loop-place-init : goal.loop-place-init
loop-place-init c = c.in_ok-counts.ensures ∙ ap (λ rows. replicate rows 0) c.len.ensures.len ∙ none_counted c.args.firsts.now

pub count-requires-clause-few : goal.count-requires-clause-few
count-requires-clause-few c =
    row_few (take c.loop-place.place c.args.before.now.lines) c.args.firsts.now c.loop-place.counts.items c.row.result _
    c.loop-place.invariant
    (let short : length (take c.loop-place.place c.args.before.now.lines) ≡ min c.loop-place.place (length c.args.before.now.lines) =
    length-take c.loop-place.place c.args.before.now.lines in
    omega arith)

pub loop-place-preserved : goal.loop-place-preserved
loop-place-preserved c = elim c.match-get.branch [
  | in-Some w ↦ rw w.counts-is
      (before_more c.args.before.now.lines c.loop-place.place (line_of w.in-Some.line) c.args.firsts.now c.loop-place.counts.items
      w.count.new.counts.items w.row.result c.len.ensures.distinct w.in-Some.ensures.line c.loop-place.invariant w.row.ensures
      w.count.ensures)
  | in_default w ↦ absurd (not_past c.args.before.now.lines c.loop-place.place w.in_default.ensures.line (omega arith))
]
