use Rattle.std.proofs.Common.{◌≤◌, length, arith}
use Rattle.plan_rules.proofs.TimerFaults.{name_long, boundary_of_name}
use Rattle.plan_rules.proofs.timers.service_name.Goals as goal

pub overflow_sub-file : goal.overflow_sub-file
overflow_sub-file c =
    let long : 7 ≤ length c.args.file.now = name_long c.args.file.now c.requires in
    omega arith

pub range-stem-requires-clause-end_boundary : goal.range-stem-requires-clause-end_boundary
range-stem-requires-clause-end_boundary c = boundary_of_name c.args.file.now c.requires
