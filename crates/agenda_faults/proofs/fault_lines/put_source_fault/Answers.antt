use Rattle.std.proofs.Common.{◌≡◌}
use Rattle.plan_rules.specs.Causes.{line_cause}
use Rattle.agenda_faults.proofs.FaultLineLemmas.{source_line-other}
use Rattle.agenda_faults.proofs.fault_lines.put_source_fault.Goals as goal

pub returns-in-NoMemory : goal.returns-in-NoMemory
returns-in-NoMemory g c = rw c.in-NoMemory.is c.put.ensures

pub returns-in_default : goal.returns-in_default
returns-in_default g c =
    let name : c.name.result.now ≡ line_cause c.args.fault.cause = cc in
    rw (
      source_line-other c.args.source.now c.args.fault.line c.args.fault.cause c.in_default.not-NoMemory c.in_default.not-Rule,
      ← name,
    ) c.put_source_line.ensures
