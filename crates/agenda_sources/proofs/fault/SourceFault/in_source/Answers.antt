use Rattle.std.proofs.Common.{refl}
use Rattle.agenda_sources.proofs.fault.SourceFault.in_source.Goals as goal

pub returns-in-NoMemory : goal.returns-in-NoMemory
returns-in-NoMemory c = rw c.in-NoMemory.is (record { fault = refl; own = tt })
