use Rattle.std.proofs.Common.{◌≡◌, ◌++◌, drop}
use Rattle.plan_timers.specs.Counted.{dirs_named}
use Rattle.plan_timers.proofs.counted.dirs_named.Given as goal

abbrev pub invariant-loop-dir : goal.invariant-loop-dir
invariant-loop-dir l = l.named.items ++ dirs_named (drop l.dir-index l.dirs) l.name ≡ dirs_named l.dirs l.name
