use Rattle.std.proofs.Common.{◌≡◌, ◌-◌, ◌<◌}
use Rattle.plan_words.specs.View.{schedule_of}
use Rattle.plan_words.specs.YearKinds.{some_month_from, year_has_day}
use Rattle.plan_words.proofs.existing.year_has_day.Given as goal

abbrev pub invariant-loop-month : goal.invariant-loop-month
invariant-loop-month l =
    (l.weekday < 7)
    × (some_month_from (schedule_of l.schedule) l.leap (13 - l.month) l.month l.weekday ≡ year_has_day (schedule_of l.schedule) l.leap l.first)
