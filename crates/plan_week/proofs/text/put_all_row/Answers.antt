use Rattle.std.proofs.Common.{ap, arith}
use Rattle.std.specs.Prelude.{sum_by}
use Rattle.plan_week.specs.Week.{count_of}
use Rattle.plan_week.proofs.SumLemmas.{rows_within}
use Rattle.plan_week.proofs.text.put_all_row.Goals as goal

pub put_hours-requires : goal.put_hours-requires
put_hours-requires g c = omega (arith, ap (sum_by count_of) c.all_hours.ensures, rows_within c.args.days.now)
