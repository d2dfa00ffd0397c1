use Rattle.std.proofs.Common.{◌≤◌, subst, sym}
use Rattle.plan_sets.specs.Limits.{end_second}
use Rattle.plan_baseline.specs.declared.lines.Place.{Place}
use Rattle.plan_baseline.proofs.OrderLemmas.{year_at}
use Rattle.plan_baseline.proofs.baseline.Baseline.get.Goals as goal

pub returns-clause-years : goal.returns-clause-years
returns-clause-years c =
    let years = c.self.invariant.2.1 in
    let found = rw c.deref.ensures.value at c.in_ok-place.ensures.lookup in
    subst (λ (place : Place). place.second ≤ end_second) (sym found.1)
    (year_at c.self.inside.text.items c.self.inside.tails.items c.self.inside.places.items c.args.place c.in_ok-place.place.now years found.3.0)
