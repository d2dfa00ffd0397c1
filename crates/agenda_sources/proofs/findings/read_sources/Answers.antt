-- The findings of a source, and what it leaves known, by the lemmas on the rest of the sources.
use Rattle.agenda_sources.proofs.FoldLemmas.{found_on, known_on}
use Rattle.agenda_sources.proofs.findings.read_sources.Goals as goal

pub loop-place-preserved : goal.loop-place-preserved
loop-place-preserved c = record {
  found = found_on c.args.context.now c.as_slice-sources.result.now c.loop-place.place c.index-sources-place.result
      c.loop-place.known c.add_source.new.known c.loop-place.found.items c.add_source.new.found.items _ c.loop-place-test.true
      c.index-sources-place.is c.loop-place.invariant.found c.in_ok-add_source.ensures.found c.in_ok-add_source.ensures.known;
  known = known_on c.args.context.now c.as_slice-sources.result.now c.loop-place.place c.index-sources-place.result
      c.loop-place.known c.add_source.new.known _ c.loop-place-test.true c.index-sources-place.is
      c.loop-place.invariant.known c.in_ok-add_source.ensures.known;
}
