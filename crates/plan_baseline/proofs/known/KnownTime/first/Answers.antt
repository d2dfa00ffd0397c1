use Rattle.std.proofs.Common.{arith, inl, refl}
use Rattle.plan_sets.specs.Civil.{civil_fields, month_and_day, year_and_day}
use Rattle.plan_sets.specs.Moment.{moment_text_of}
use Rattle.plan_baseline.proofs.known.KnownTime.first.Goals as goal

pub invariant_of-result : goal.invariant_of-result
unfolding moment_text_of civil_fields year_and_day month_and_day
invariant_of-result c = ((omega arith, inl refl), λ inside. refl)
