-- The file of a timer with a valid name has a valid name.
use Rattle.std.proofs.Common.{◌≡◌, true, subst, sym}
use Rattle.plan_rules.specs.Timer.{is_timer_file}
use Rattle.plan_rules.proofs.TimerFaults.{file_valid}
use Rattle.plan_rules.proofs.timers.timer_job.Goals as goal

pub service_name-requires : goal.service_name-requires
service_name-requires c =
    subst (λ file. is_timer_file file ≡ true) (sym c.timer_file.ensures) (file_valid c.args.name.now c.requires)
