use Rattle.agenda_inputs.proofs.machine_zone.clock_by_zone.Goals as goal

pub returns-in-Local-Some-clause-read : goal.returns-in-Local-Some-clause-read
returns-in-Local-Some-clause-read g c =
    rw (c.in-Local-Some.is, c.in-Local-Some.bytes-is) (rw c.as_slice.ensures.value at c.zone_of_file.ensures)
