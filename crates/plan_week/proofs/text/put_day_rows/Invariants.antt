use Rattle.std.proofs.Common.{take}
use Rattle.std.specs.List.{flat_map}
use Rattle.plan_streams.specs.Writer.{Takes}
use Rattle.plan_week.specs.Texts.{day_row}
use Rattle.plan_week.proofs.text.put_day_rows.Given as goal

-- the writer took the rows of the days so far
abbrev pub invariant-loop-day : goal.invariant-loop-day
invariant-loop-day g l =
    Takes g.S.Stream.holds g.S.Stream.takes_all l.initial.lines l.lines (flat_map day_row (take l.day-index l.days))
