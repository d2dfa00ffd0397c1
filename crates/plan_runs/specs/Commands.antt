-- What the job of a line runs, as sh(1) reads it.
use Rattle.std.specs.Prelude.{ℕ, Bool, if◌then◌else◌, List, [], codes, Option, None, Some, Ok, Err}
use Rattle.std.specs.Str.{bytes_eq}
use Rattle.plan_cron.specs.Commands.{shell_command}
use Rattle.plan_rules.specs.declared.crontabs.Kind.{Kind}
use Rattle.plan_rules.specs.Crontab.{line_reading}
use Rattle.plan_rules.specs.Job.{JobParts}
use Rattle.plan_rules.specs.LineFaults.{LineReading}
use Rattle.plan_shell.specs.declared.step.Step.{Step}
use Rattle.plan_shell.specs.Reading.{steps_in}
use Rattle.plan_runs.specs.declared.commands.LineCommand.{LineCommand}
use Rattle.plan_runs.specs.Settings.{Settings, is_read}

-- the user of a job is root: its line says so, or the crontab is root's (crontab(5))
abbrev pub is_roots_job : (is_roots : Bool) → (user : Option (List ℕ)) → Bool
is_roots_job is_roots None = is_roots
is_roots_job is_roots (Some user) = bytes_eq user (codes "root")

-- the command of a job, whether root runs it
abbrev pub command_of : (is_root : Bool) → Option (List Step) → Option LineCommand
command_of is_root None = None
command_of is_root (Some steps) = Some (record { is_root = is_root; list = steps })

-- the command of a line's job; nothing, if there is no job, or the command isn't read
abbrev pub job_command : (is_roots : Bool) → LineReading (Option JobParts) → Option LineCommand
job_command is_roots (Ok (Some job)) = command_of (is_roots_job is_roots job.user) (steps_in (shell_command job.command))
job_command is_roots (Ok None) = None
job_command is_roots (Err cause) = None

-- the command of a line with this number, if commands are read there
abbrev pub line_command : Kind → Settings → (number : ℕ) → (line : List ℕ) → Option LineCommand
line_command kind settings number line =
    if is_read settings then job_command settings.is_roots (line_reading [] kind number line) else None
