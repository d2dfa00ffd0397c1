use Rattle.std.proofs.Common.{◌∙◌, ◌+◌, ◌++◌, ℕ, List, Option, None, ap, subst, take}
use Rattle.std.specs.List.{enumerate_from, flat_map}
use Rattle.plan_streams.proofs.StreamLemmas.{takes_both}
use Rattle.plan_streams.specs.Writer.{Takes}
use Rattle.plan_week.specs.Texts.{hour_object}
use Rattle.plan_week.specs.Week.{count_of}
use Rattle.plan_week.proofs.TextLemmas.{objects_all, objects_more}
use Rattle.plan_week.proofs.text.put_each_object.Goals as goal

pub loop-hour-preserved : goal.loop-hour-preserved
loop-hour-preserved g c =
    let f : ℕ × Option ℕ → List ℕ = λ hour. hour_object c.args.date.now hour.0 (count_of hour.1) in
    let i = c.loop-hour.hour in
    let hours = c.args.hours.now in
    takes_both g.S.Stream.holds g.S.Stream.takes_all c.args.lines.now c.loop-hour.lines c.put_object.new.lines
    (flat_map f (take i (enumerate_from 0 hours))) (hour_object c.args.date.now i c.unwrap_or.result)
    (flat_map f (take (i + 1) (enumerate_from 0 hours))) c.loop-hour.invariant c.put_object.ensures
    (ap (λ n. flat_map f (take i (enumerate_from 0 hours)) ++ hour_object c.args.date.now i n) c.unwrap_or.ensures
    ∙ objects_more f hours i None c.loop-hour-test.true)

pub returns : goal.returns
returns g c =
    let f : ℕ × Option ℕ → List ℕ = λ hour. hour_object c.args.date.now hour.0 (count_of hour.1) in
    subst (λ (hours : List (ℕ × Option ℕ)). Takes g.S.Stream.holds g.S.Stream.takes_all c.args.lines.now c.loop-hour.lines (flat_map f hours))
    (objects_all c.args.hours.now c.loop-hour.hour c.loop-hour-test.false) c.loop-hour.invariant
