use Rattle.plan_runs.proofs.scripts.command_scripts.Goals as goal

pub returns-in-Some : goal.returns-in-Some
returns-in-Some g c = rw c.in-Some.is (λ known fit. rw fit at (rw c.asker-asker.ensures at c.scripts_run.ensures known))
