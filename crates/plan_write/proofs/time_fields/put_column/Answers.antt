use Rattle.std.proofs.Common.{append_assoc}
use Rattle.plan_streams.proofs.StreamLemmas.{takes_both}
use Rattle.plan_write.proofs.time_fields.put_column.Goals as goal
use Rattle.std.proofs.Common.{arith}
use Rattle.std.proofs.lemmas.Bool.Decides.{nat_tests}

pub returns : goal.returns
returns g c = grind (arith, nat_tests, takes_both, append_assoc)
