use Rattle.std.proofs.Common.{◌≡◌, ◌-◌}
use Rattle.plan_words.specs.View.{some_values_of}
use Rattle.plan_words.specs.YearKinds.{has_year_from, has_year_of}
use Rattle.plan_words.proofs.existing.has_year_of.Given as goal

abbrev pub invariant-loop-year : goal.invariant-loop-year
invariant-loop-year l =
    has_year_from (some_values_of l.years) l.common l.leap (3000 - l.year) l.year ≡ has_year_of (some_values_of l.years) l.common l.leap
