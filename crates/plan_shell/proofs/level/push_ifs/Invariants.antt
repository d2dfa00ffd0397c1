use Rattle.std.proofs.Common.{◌≡◌, ◌++◌, replicate}
use Rattle.plan_shell.specs.declared.step.Step.TheVariants.{If}
use Rattle.plan_shell.proofs.level.push_ifs.Given as goal

abbrev pub invariant-loop : goal.invariant-loop
invariant-loop l = l.steps.items ≡ l.initial.steps.items ++ replicate l.counter If
