use Rattle.std.proofs.Common.{◌∙◌, get_or}
use Rattle.agenda_machine.specs.Places.{located_at}
use Rattle.agenda_machine.proofs.CountLemmas.{located_by}
use Rattle.agenda_machine.proofs.PlaceLemmas.{changed_more}
use Rattle.agenda_machine.proofs.places.located.Goals as goal

pub loop-one-preserved : goal.loop-one-preserved
loop-one-preserved c =
    let sources = c.args.sources.now in
    let one = get_or c.loop-one.one-items c.loop-one.one-index c.one-item.result in
    let counts = c.as_slice.ensures.value ∙ c.in_ok-counts.ensures in
    changed_more (located_at sources) c.deref_mut-one-items.result.now c.loop-one.one-items c.loop-one.one-index
    c.locate.new.one c.one-item.result c.loop-one.invariant c.loop-one-test.true
    (c.in_ok-locate.ensures ∙ located_by c.as_slice.result.now sources one counts)
