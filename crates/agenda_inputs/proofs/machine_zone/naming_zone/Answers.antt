use Rattle.std.proofs.Common.{inl, refl}
use Rattle.agenda_inputs.proofs.machine_zone.naming_zone.Goals as goal

pub returns-in-Err-Zone-clause-read : goal.returns-in-Err-Zone-clause-read
returns-in-Err-Zone-clause-read g c =
    rw (c.in-Err-Zone.is, c.in-Err-Zone.field-0-is) (inl (c.in-Err-Zone.fault, refl, c.no_zone.ensures.read))
