use Rattle.std.proofs.Common.{ap}
use Rattle.plan_write.specs.Upcoming.{upcoming_text}
use Rattle.agenda_commands.proofs.goal.make_upcoming.Goals as goal

pub returns-clause-made : goal.returns-clause-made
returns-clause-made c =
    let nexts = c.in_ok-upcoming.upcoming in
    (nexts, c.in_ok-upcoming.ensures.nexts, ap (upcoming_text c.args.format.now c.args.delays nexts) c.in_ok-ends.ensures.ends)
