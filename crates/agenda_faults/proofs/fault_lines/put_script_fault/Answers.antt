use Rattle.std.proofs.Common.{◌≡◌}
use Rattle.agenda_script.specs.Causes.{script_cause}
use Rattle.agenda_faults.proofs.FaultLineLemmas.{script_line-other}
use Rattle.agenda_faults.proofs.fault_lines.put_script_fault.Goals as goal

pub returns-in-NoMemory : goal.returns-in-NoMemory
returns-in-NoMemory g c = rw c.in-NoMemory.is c.put.ensures

pub returns-in_default : goal.returns-in_default
returns-in_default g c =
    let name : c.name.result.now ≡ script_cause c.args.fault.cause = cc in
    rw (script_line-other c.args.fault.line c.args.fault.cause c.in_default.not-NoMemory, ← name) c.put_numbered.ensures
