use Rattle.plan_baseline.proofs.LineLemmas.{no_span}
use Rattle.plan_baseline.proofs.lines.span_of.Goals as goal

pub returns-clause-none : goal.returns-clause-none
returns-clause-none c =
    no_span c.args.since.now c.args.upto.now c.in-Some.since c.in-Some-read_time.upto c.new.result c.in-Some.ensures c.in-Some-read_time.ensures
    c.new.ensures.backwards c.new.ensures.out_of_years c.ok.result c.ok.ensures.value
