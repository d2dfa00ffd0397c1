use Rattle.std.proofs.Common.{◌≡◌, ◌-◌, ◌<◌}
use Rattle.plan_words.specs.View.{schedule_of}
use Rattle.plan_words.specs.YearKinds.{has_some_day, some_year_from, AreTried}
use Rattle.plan_words.proofs.existing.has_some_day.Given as goal

abbrev pub invariant-loop-year : goal.invariant-loop-year
invariant-loop-year l =
    (l.weekday < 7)
    × (AreTried (schedule_of l.schedule) l.tried
    × (some_year_from (schedule_of l.schedule) (3000 - l.year) l.year l.weekday ≡ has_some_day (schedule_of l.schedule)))
