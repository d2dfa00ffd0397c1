use Rattle.std.proofs.Common.{◌≡◌}
use Rattle.plan_grammar.specs.Causes.{rule_cause}
use Rattle.agenda_faults.proofs.FaultLineLemmas.{source_rule_line-other}
use Rattle.agenda_faults.proofs.fault_lines.put_source_rule_fault.Goals as goal

pub returns-in-NoMemory : goal.returns-in-NoMemory
returns-in-NoMemory g c = rw c.in-NoMemory.is c.put.ensures

pub returns-in_default : goal.returns-in_default
returns-in_default g c =
    let part : c.from.result ≡ c.args.fault.part = cc in
    let name : c.name.result.now ≡ rule_cause c.args.fault.cause = cc in
    rw (
      source_rule_line-other c.args.source.now c.args.number c.args.fault.part c.args.fault.cause c.in_default.not-NoMemory,
      ← part,
      ← name,
    ) c.put_source_part.ensures
