use Rattle.std.proofs.Common.{◌≡◌, ◌+◌, ◌-◌, ◌<◌}
use Rattle.plan_words.specs.View.{days_of}
use Rattle.plan_words.specs.YearKinds.{month_has_day, some_day_from}
use Rattle.plan_words.proofs.existing.month_has_day.Given as goal

abbrev pub invariant-loop-day : goal.invariant-loop-day
invariant-loop-day l =
    (l.weekday < 7)
    × (some_day_from (days_of l.days) l.length (l.length + 1 - l.day) l.day l.weekday ≡ month_has_day (days_of l.days) l.length l.first)
