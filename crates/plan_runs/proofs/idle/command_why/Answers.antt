use Rattle.plan_runs.proofs.idle.command_why.Goals as goal

pub returns-in-Some : goal.returns-in-Some
returns-in-Some g c =
    rw c.in-Some.is (λ known fit. rw fit at (rw c.asker.ensures at (rw c.new-looks.ensures at c.idle_reason.ensures.reason known)))
