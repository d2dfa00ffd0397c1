use Rattle.std.proofs.Common.{ap}
use Rattle.plan_write.specs.Scripts.{scripts_text}
use Rattle.plan_write.specs.declared.Format.{Format}
use Rattle.agenda_commands.proofs.goal.make_scripts.Goals as goal

pub returns-clause-made : goal.returns-clause-made
returns-clause-made c =
    let nexts = c.in_ok-nexts.nexts in
    λ (format : Format). (nexts, c.in_ok-nexts.ensures.nexts, ap (scripts_text format.local nexts) c.in_ok-scripts.ensures)
