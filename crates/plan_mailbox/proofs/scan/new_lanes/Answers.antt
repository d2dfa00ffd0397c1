-- For `new_lanes`: each new lane is appended to lanes of which the clauses hold already.
use Rattle.std.proofs.Common.{arith}
use Rattle.std.proofs.lemmas.List.Elements.{All-nil, All-push, All-same}
use Rattle.plan_mailbox.proofs.scan.new_lanes.Goals as goal
use Rattle.std.proofs.lemmas.Bool.Decides.{nat_tests}
use Rattle.std.proofs.lemmas.Grind.{common_steps}

pub loop-init : goal.loop-init
loop-init g c = grind (arith, nat_tests, common_steps, All-same, All-nil)

pub loop-preserved : goal.loop-preserved
loop-preserved g c = grind (arith, nat_tests, common_steps, All-same, All-push)
