use Rattle.agenda_answers.proofs.NextLemmas.{exits_plainly}
use Rattle.agenda_answers.proofs.machine_next.report_fault.Goals as goal

pub returns-in_default-clause-exits : goal.returns-in_default-clause-exits
returns-in_default-clause-exits g c =
    exits_plainly c.args.rule.now c.args.fault _ _ c.in_default.not-Rule c.end.ensures.exits
