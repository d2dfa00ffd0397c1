use Rattle.plan_write.proofs.scripts.put_start.Goals as goal

pub returns-in-Some : goal.returns-in-Some
returns-in-Some g c = rw (← c.job.ensures, ← c.in-Some.ensures, ← c.second.ensures) c.put_job.ensures
