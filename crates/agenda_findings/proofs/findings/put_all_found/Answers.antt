use Rattle.std.specs.Prelude.{slice_get}
use Rattle.agenda_sources.specs.declared.Found.{Found}
use Rattle.plan_streams.proofs.StreamLemmas.{takes_none}
use Rattle.plan_write.proofs.TakesLemmas.{takes_more, takes_whole}
use Rattle.std.proofs.Common.{refl}
use Rattle.agenda_findings.specs.Findings.{found_line}
use Rattle.agenda_findings.proofs.findings.put_all_found.Goals as goal

pub loop-one-init : goal.loop-one-init
loop-one-init g c = takes_none g.S.Stream.holds g.S.Stream.takes_all c.args.lines.now

pub loop-one-preserved : goal.loop-one-preserved
loop-one-preserved g c =
    takes_more g.S.Stream.holds g.S.Stream.takes_all c.args.lines.now c.loop-one.lines c.put_found.new.lines
    (λ (one : Found). found_line c.args.json (slice_get c.args.paths.now one.place) one.finding) c.args.found.now
    c.loop-one.one-index c.one-item.result c.loop-one-test.true c.one-item.is c.loop-one.invariant c.put_found.ensures

pub returns : goal.returns
returns g c =
    takes_whole g.S.Stream.holds g.S.Stream.takes_all c.args.lines.now c.loop-one.lines
    (λ (one : Found). found_line c.args.json (slice_get c.args.paths.now one.place) one.finding) c.args.found.now
    c.args.found.now c.loop-one.one-index c.loop-one-test.false refl c.loop-one.invariant
