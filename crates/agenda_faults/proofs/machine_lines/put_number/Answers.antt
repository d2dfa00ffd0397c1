use Rattle.std.proofs.Common.{append_assoc, codes, ◌++◌, refl}
use Rattle.std.specs.Prelude.{decimal}
use Rattle.plan_streams.proofs.StreamLemmas.{takes_both}
use Rattle.agenda_faults.specs.MachineLines.{number_code}
use Rattle.agenda_faults.proofs.machine_lines.put_number.Goals as goal

pub returns : goal.returns
returns g c =
    let takes = takes_both g.S.Stream.holds g.S.Stream.takes_all in
    takes c.args.line.now c.put_both.new.self c.put_both-3.new.self _ _ _ (rw (c.as_bytes.ensures.value, c.name.ensures) at c.put_both.ensures)
    (takes c.put_both.new.self c.put_range.new.line c.put_both-3.new.self _ _ _ c.put_range.ensures
    (takes c.put_range.new.line c.put_both-2.new.self c.put_both-3.new.self _ _ _
    (rw (c.as_bytes-2.ensures.value, c.format.ensures.text) at c.put_both-2.ensures)
    (rw (c.as_bytes-3.ensures.value, c.code.ensures) at c.put_both-3.ensures)
    (append_assoc (decimal c.args.number) (codes "' [") (number_code c.args.option ++ codes "]\n"))) refl) refl
