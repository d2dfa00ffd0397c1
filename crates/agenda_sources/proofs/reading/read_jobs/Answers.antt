-- Answers the error of a source, and the loop's invariant after a source that was read, by the lemmas on the fold.
use Rattle.std.proofs.Common.{Err, Ok, ap, sym, ◌∙◌}
use Rattle.std.proofs.lemmas.List.{drop_all}
use Rattle.std.proofs.lemmas.Result.{err_from_is_err_and}
use Rattle.agenda_sources.proofs.FoldLemmas.{all_read, read_fault, read_on, strictly_from}
use Rattle.agenda_sources.proofs.reading.read_jobs.Goals as goal

pub loop-place-preserved : goal.loop-place-preserved
loop-place-preserved c =
    read_on c.args.context.now c.as_slice-sources.result.now c.loop-place.place c.index-sources-place.result c.loop-place.known
    c.add_jobs.new.known _ c.loop-place-test.true c.index-sources-place.is c.loop-place.invariant c.in_ok-add_jobs.ensures.meaning

pub returns-in_err-add_jobs-clause-meaning : goal.returns-in_err-add_jobs-clause-meaning
returns-in_err-add_jobs-clause-meaning c =
    let p = err_from_is_err_and c.from_residual.result c.from_residual.ensures.1 in
    rw (p.1, p.2, ← c.as_slice-sources.ensures)
    (λ other. all_read c.a_file_means_its_reading.ensures c.args.context.now c.as_slice-sources.result.now (Err c.in_err-add_jobs.field-0.0)
    (read_fault c.args.context.now c.as_slice-sources.result.now c.loop-place.place c.index-sources-place.result c.loop-place.known
    c.in_err-add_jobs.field-0.0 _ c.loop-place-test.true c.index-sources-place.is c.loop-place.invariant
    (c.in_err-add_jobs.ensures.meaning other)))

pub returns-clause-meaning : goal.returns-clause-meaning
returns-clause-meaning c =
    let sources = c.as_slice-sources.result.now in
    rw (c.into_jobs.ensures, ← c.as_slice-sources.ensures)
    (all_read c.a_file_means_its_reading.ensures c.args.context.now sources (Ok c.loop-place.known)
    (sym c.loop-place.invariant
    ∙ ap (strictly_from c.args.context.now c.loop-place.place c.loop-place.known)
    (drop_all c.loop-place.place sources c.loop-place-test.false)))
