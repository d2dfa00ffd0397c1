use Rattle.std.proofs.Common.{refl}
use Rattle.plan_streams.proofs.StreamLemmas.{takes_both}
use Rattle.agenda_faults.proofs.machine_lines.put_empty_span.Goals as goal

pub returns : goal.returns
returns g c =
    takes_both g.S.Stream.holds g.S.Stream.takes_all c.args.line.now c.put.new.self c.put-3.new.self _ _ _ c.put.ensures
    (takes_both g.S.Stream.holds g.S.Stream.takes_all c.put.new.self c.put-2.new.lines c.put-3.new.self _ _ _ c.put-2.ensures
    c.put-3.ensures refl)
    refl
