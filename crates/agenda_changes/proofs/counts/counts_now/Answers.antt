use Rattle.std.proofs.Common.{◌≡◌, length, min, take, replicate, ap, ◌∙◌, arith, length-take}
use Rattle.std.proofs.lemmas.List.{length-map}
use Rattle.plan_changes.specs.Lines.{line_of_entry, lines_of, texts_at}
use Rattle.agenda_changes.proofs.CountLemmas.{none_counted, now_more, row_few, row_of_job, row_within}
use Rattle.agenda_changes.proofs.counts.counts_now.Goals as goal

pub loop-start-init : goal.loop-start-init
loop-start-init c = c.in_ok-counts.ensures ∙ ap (λ rows. replicate rows 0) c.len.ensures.len ∙ none_counted c.args.firsts.now

pub count-requires-clause-within : goal.count-requires-clause-within
count-requires-clause-within c =
    row_within (lines_of c.args.jobs.now (take c.loop-start.start-index c.args.starts.now)) c.args.firsts.now
    c.loop-start.counts.items (texts_at c.args.jobs.now c.start-item.result.1).1 c.row_at.result c.loop-start.invariant
    (row_of_job c.args.firsts.now c.args.jobs.now c.deref.result.now c.job.result c.start-item.result.1 c.row_at.result
    c.row-no_job.result (c.deref.ensures.value ∙ c.in_ok-rows.ensures) c.row-no_job.ensures c.job.ensures c.row_at.ensures)

pub count-requires-clause-few : goal.count-requires-clause-few
count-requires-clause-few c =
    row_few (lines_of c.args.jobs.now (take c.loop-start.start-index c.args.starts.now)) c.args.firsts.now
    c.loop-start.counts.items c.row_at.result _ c.loop-start.invariant
    (let short :
    length (lines_of c.args.jobs.now (take c.loop-start.start-index c.args.starts.now))
    ≡ min c.loop-start.start-index (length c.args.starts.now) =
    length-map (take c.loop-start.start-index c.args.starts.now) (line_of_entry c.args.jobs.now)
    ∙ length-take c.loop-start.start-index c.args.starts.now in
    omega arith)

pub loop-start-preserved : goal.loop-start-preserved
loop-start-preserved c =
    now_more c.args.jobs.now c.args.starts.now c.loop-start.start-index c.start-item.result c.args.firsts.now
    c.loop-start.counts.items c.count.new.counts.items c.row_at.result c.len.ensures.distinct c.loop-start-test.true c.start-item.is
    c.loop-start.invariant
    (row_of_job c.args.firsts.now c.args.jobs.now c.deref.result.now c.job.result c.start-item.result.1 c.row_at.result
    c.row-no_job.result (c.deref.ensures.value ∙ c.in_ok-rows.ensures) c.row-no_job.ensures c.job.ensures c.row_at.ensures)
    c.count.ensures
