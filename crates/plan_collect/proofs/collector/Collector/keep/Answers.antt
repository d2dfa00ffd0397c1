use Rattle.std.proofs.Common.{arith}
use Rattle.plan_collect.specs.contracts.collector.Collector.{the_view}
use Rattle.plan_collect.proofs.StartLemmas.{starts-in_years}
use Rattle.plan_collect.proofs.HoldsLemmas.{Holds-kept, job_covered}
use Rattle.plan_collect.proofs.collector.Collector.keep.Goals as goal
use Rattle.std.proofs.lemmas.Bool.Decides.{nat_tests}

pub invariant_of-self-2 : goal.invariant_of-self-2
invariant_of-self-2 c =
    Holds-kept (the_view c.self.inside) c.args.self.now c.self.inside.entries.items c.append.new.entries.items c.args.job
    c.args.piece.now c.starts.result.now c.upto.result
    c.self.view_is c.self.invariant c.requires.known c.requires.adjoins c.requires.room c.starts.ensures c.upto.ensures.value
    c.upto.ensures.ordered c.in_ok-append.ensures.all

pub append-requires-clause-years : goal.append-requires-clause-years
append-requires-clause-years c = grind (arith, nat_tests, starts-in_years)

pub index_mut-requires : goal.index_mut-requires
index_mut-requires c = grind (arith, nat_tests, job_covered)
