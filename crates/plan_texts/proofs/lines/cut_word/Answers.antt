use Rattle.plan_texts.proofs.LinesLemmas.{boundary_before_blank}
use Rattle.plan_texts.proofs.lines.cut_word.Goals as goal
use Rattle.std.proofs.Common.{arith}
use Rattle.std.proofs.lemmas.Bool.Decides.{nat_tests}
use Rattle.std.proofs.lemmas.Grind.{common_steps}

pub split_at-requires : goal.split_at-requires
split_at-requires c = grind (arith, nat_tests, common_steps, boundary_before_blank)
