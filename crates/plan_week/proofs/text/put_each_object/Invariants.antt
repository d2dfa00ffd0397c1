use Rattle.std.proofs.Common.{take}
use Rattle.std.specs.List.{enumerate_from, flat_map}
use Rattle.plan_streams.specs.Writer.{Takes}
use Rattle.plan_week.specs.Texts.{hour_object}
use Rattle.plan_week.specs.Week.{count_of}
use Rattle.plan_week.proofs.text.put_each_object.Given as goal

-- the writer took the objects of the hours so far
abbrev pub invariant-loop-hour : goal.invariant-loop-hour
invariant-loop-hour g l =
    Takes g.S.Stream.holds g.S.Stream.takes_all l.initial.lines l.lines
    (flat_map (λ hour. hour_object l.date hour.0 (count_of hour.1)) (take l.hour (enumerate_from 0 l.hours)))
