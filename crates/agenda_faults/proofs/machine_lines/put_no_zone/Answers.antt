use Rattle.std.proofs.Common.{refl}
use Rattle.plan_streams.proofs.StreamLemmas.{takes_both}
use Rattle.agenda_faults.proofs.machine_lines.put_no_zone.Goals as goal

pub returns-in-Some : goal.returns-in-Some
returns-in-Some g c =
    rw c.in-Some.is (takes_both g.S.Stream.holds g.S.Stream.takes_all c.args.line.now c.put_both.new.self c.put_between-in-Some.new.line
    _ _ _ c.put_both.ensures (rw c.as_str.ensures at c.put_between-in-Some.ensures)
    (rw c.as_bytes.ensures.value refl))
