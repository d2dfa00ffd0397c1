use Rattle.std.proofs.Common.{◌≡◌, ◌-◌}
use Rattle.std.specs.List.{list_any, range_with_len}
use Rattle.plan_words.specs.View.{months_of}
use Rattle.plan_words.specs.YearKinds.{has_short_month, is_short_month}
use Rattle.plan_words.proofs.existing.has_short_month.Given as goal

abbrev pub invariant-loop-month : goal.invariant-loop-month
invariant-loop-month l =
    list_any (is_short_month (months_of l.months) l.leap l.date) (range_with_len l.month (13 - l.month))
    ≡ has_short_month (months_of l.months) l.leap l.date
