-- Which changes of its clock a rule heeds, that is, handles specially: times that the clock shows again start nothing,
-- and times that it skips are made up for.
use Rattle.std.specs.Prelude.{Bool, ◌&&◌, ◌||◌, not, pos, neg_ℤ, int_le, int_lt}
use Rattle.plan_clock.specs.declared.row.Row.{Row}
use Rattle.plan_clock.specs.Rows.{size}
use Rattle.plan_match.specs.declared.cron.CronRule.{CronRule}

-- a cron rule that runs at a particular time heeds gaps of less than three hours and folds of up to three hours; a rule
-- with a wildcard heeds no change (cron(8))
abbrev pub cron_heeds : CronRule → Row → Bool
cron_heeds rule row =
    not rule.is_wildcard
    && ((int_le (neg_ℤ (pos 10_800)) (size row) && int_lt (size row) (pos 0))
    || (int_lt (pos 0) (size row) && int_lt (size row) (pos 10_800)))

-- a calendar event heeds folds of any size (agenda: as systemd's timers do)
abbrev pub event_heeds : Row → Bool
event_heeds row = int_lt (size row) (pos 0)
