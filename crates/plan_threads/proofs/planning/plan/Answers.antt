use Rattle.plan_collect.specs.AgendaLaws.{gives-of_jobs}
use Rattle.plan_threads.proofs.planning.plan.Goals as goal

pub returns-clause-jobs : goal.returns-clause-jobs
returns-clause-jobs g c = gives-of_jobs c.args.jobs.now _ _ c.run_threads.result c.run_threads.ensures
