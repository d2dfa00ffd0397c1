use Rattle.plan_baseline.proofs.TimeLemmas.{utc_read, local_read}
use Rattle.plan_baseline.proofs.times.read_time.Goals as goal

pub returns-then-text-eq20 : goal.returns-then-text-eq20
returns-then-text-eq20 c = utc_read c.args.text.now c.read_utc.result c.if-text-eq20.true c.read_utc.ensures.some c.read_utc.ensures.none

pub returns-else-text-eq20 : goal.returns-else-text-eq20
returns-else-text-eq20 c = local_read c.args.text.now c.read_local.result c.if-text-eq20.false c.read_local.ensures.some c.read_local.ensures.none
