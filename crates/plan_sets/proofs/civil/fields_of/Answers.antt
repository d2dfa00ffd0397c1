-- The date with the second's day number gives its fields.
use Rattle.std.proofs.Common.{arith, ◌≡◌, ◌/◌, FitsSigned, of_z, to_z, to_z-of_z, w16}
use Rattle.jiff_core.proofs.SignedLemmas.{signed_arith, signed_casts}
use Rattle.plan_sets.specs.Limits.{seconds_a_day}
use Rattle.plan_sets.specs.CivilLaws.{IsCivilOf-civil_fields, IsCivilOf-unique, IsInRange-year}
use Rattle.plan_sets.proofs.CivilLemmas.{year-from_epoch, IsCivilOf-date}
use Rattle.plan_sets.proofs.civil.fields_of.Goals as goal

pub overflow_cast-result : goal.overflow_cast-result
overflow_cast-result c =
    let low = year-from_epoch c.date_of_day-date.result (c.args.second / seconds_a_day) c.date_of_day-date.ensures in
    omega (arith, signed_casts)

pub returns-clause-civil : goal.returns-clause-civil
returns-clause-civil c =
    let date = c.date_of_day-date.result in
    let fits : FitsSigned w16 date.year = omega (arith, signed_arith, date.year_in) in
    let back : to_z w16 (of_z w16 date.year) ≡ date.year = to_z-of_z fits in
    rw back (IsCivilOf-date c.args.second date c.date_of_day-date.ensures)

pub returns-clause-fields : goal.returns-clause-fields
returns-clause-fields c =
    IsCivilOf-unique c.args.second _ _ (returns-clause-civil c) (IsCivilOf-civil_fields c.args.second c.requires)

pub returns-clause-years : goal.returns-clause-years
returns-clause-years c =
    (IsInRange-year c.args.second _ (returns-clause-civil c) c.requires).0
