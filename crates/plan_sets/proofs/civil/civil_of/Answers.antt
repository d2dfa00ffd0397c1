-- A second before the end is in the supported years.
use Rattle.std.proofs.Common.{arith}
use Rattle.plan_sets.specs.CivilLaws.{IsInRange-year}
use Rattle.plan_sets.proofs.civil.civil_of.Goals as goal

pub returns-clause-years : goal.returns-clause-years
returns-clause-years c =
    let bounds = IsInRange-year c.args.second c.fields_of.result c.fields_of.ensures.civil (omega arith) in
    (bounds.0.0, bounds.1 c.requires)
