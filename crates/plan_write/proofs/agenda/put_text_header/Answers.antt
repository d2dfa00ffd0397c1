use Rattle.plan_streams.proofs.StreamLemmas.{takes_both}
use Rattle.plan_write.proofs.TakesLemmas.{takes_three}
use Rattle.plan_write.proofs.agenda.put_text_header.Goals as goal
use Rattle.std.proofs.Common.{arith}
use Rattle.std.proofs.lemmas.Bool.Decides.{nat_tests}
use Rattle.std.proofs.lemmas.Grind.{common_steps}

pub returns : goal.returns
returns g c = grind (arith, nat_tests, common_steps, takes_both, takes_three)
