-- What contracts say of the jobs of a crontab that run nothing, and of the scripts that its jobs run.
use Rattle.std.specs.Prelude.{ℕ, List}
use Rattle.plan_runs.specs.declared.idle.IdleJob.{IdleJob}

-- the text without the lines of idle jobs, and these jobs
pub record KnownActive : Type 0 where
  pub text : List ℕ
  pub idle : List IdleJob

-- the number of a line, and the paths of the scripts that its job may run
pub record KnownScripts : Type 0 where
  pub line : ℕ
  pub scripts : List (List ℕ)
