-- Each part of the span adds the hour that the clock shows in it.
use Rattle.std.proofs.Common.{◌≡◌, ℕ, ◌+◌, ◌-◌, ◌/◌, ◌<◌, ◌≤◌, ap, arith, length, sym, ◌∙◌}
use Rattle.plan_week.specs.Hours.{hour_at}
use Rattle.plan_week.specs.Table.{days_by, days_with, end_day, first_day, found_at, shown_in, table_by}
use Rattle.plan_week.specs.Week.{count_of}
use Rattle.plan_week.specs.declared.day.Day.{Day}
use Rattle.plan_week.proofs.CountLemmas.{between, count_of-shown_in, hours_more, no_hours}
use Rattle.plan_week.proofs.HoursLemmas.{in_table}
use Rattle.plan_week.proofs.TableLemmas.{found_at-days_by, length-days_by}
use Rattle.plan_week.proofs.table.Table.add_hours.Goals as goal

pub loop-second-init : goal.loop-second-init
loop-second-init c =
    let span = c.args.agenda.now.span in
    let first = first_day span in
    let since : span.since ≡ c.since-second.result = sym c.since-second.ensures.value in
    record {
      from = omega arith;
      to = omega arith;
      first = c.requires.first;
      days = c.requires.days ∙ no_hours c.args.clock.now span.since first (end_day span - first)
          ∙ ap (λ n. table_by (shown_in c.args.clock.now (between span.since n)) span) since;
      bounded = λ n from before. absurd (omega arith);
    }

pub add-requires-clause-from : goal.add-requires-clause-from
add-requires-clause-from c =
    let found = in_table c.args.clock.now c.args.agenda.now.span c.loop-second.second c.at-part.result.hour c.at-part.ensures.hour
    (c.at-part.ensures.bounded c.loop-second.second) (omega arith) c.loop-second.invariant.from (omega arith) in
    omega (arith, found.0, c.loop-second.invariant.first)

pub add-requires-clause-to : goal.add-requires-clause-to
add-requires-clause-to c =
    let found = in_table c.args.clock.now c.args.agenda.now.span c.loop-second.second c.at-part.result.hour c.at-part.ensures.hour
    (c.at-part.ensures.bounded c.loop-second.second) (omega arith) c.loop-second.invariant.from (omega arith) in
    let span = c.args.agenda.now.span in
    let first = first_day span in
    let shown = shown_in c.args.clock.now (between span.since c.loop-second.second) in
    let len = ap length c.loop-second.invariant.days ∙ length-days_by shown first (end_day span - first) in
    let both = c.loop-second.self.days.ok.0 in
    omega (arith, len, both, found.0, found.1, c.loop-second.invariant.first)

pub add-requires-clause-room : goal.add-requires-clause-room
add-requires-clause-room c =
    let found = in_table c.args.clock.now c.args.agenda.now.span c.loop-second.second c.at-part.result.hour c.at-part.ensures.hour
    (c.at-part.ensures.bounded c.loop-second.second) (omega arith) c.loop-second.invariant.from (omega arith) in
    let span = c.args.agenda.now.span in
    let first = first_day span in
    let hour = c.at-part.result.hour in
    let shown = shown_in c.args.clock.now (between span.since c.loop-second.second) in
    let there : found_at c.loop-second.self.first hour c.loop-second.self.days.items ≡ shown hour =
    (λ i. found_at (c.loop-second.invariant.first i) hour (c.loop-second.invariant.days i))
    ∙ found_at-days_by shown first (end_day span - first) hour found.0 (omega (arith, found.0, found.1)) in
    let none = ap count_of there ∙ count_of-shown_in c.args.clock.now (between span.since c.loop-second.second) hour in
    omega (arith, none)

pub loop-second-preserved : goal.loop-second-preserved
loop-second-preserved c =
    let span = c.args.agenda.now.span in
    let first = first_day span in
    let count = end_day span - first in
    let clock = c.args.clock.now in
    let second = c.loop-second.second in
    let hour = c.at-part.result.hour in
    let found = in_table c.args.clock.now c.args.agenda.now.span c.loop-second.second c.at-part.result.hour c.at-part.ensures.hour
    (c.at-part.ensures.bounded c.loop-second.second) (omega arith) c.loop-second.invariant.from (omega arith) in
    record {
      from = omega arith;
      to = omega arith;
      first = c.add.ensures.first ∙ c.loop-second.invariant.first;
      days = c.add.ensures.days ∙ (λ i. days_with (c.loop-second.invariant.first i) hour 0 (c.loop-second.invariant.days i))
          ∙ hours_more clock span.since second c.at-part.result.upto first count hour c.at-part.ensures.hour
          c.loop-second.invariant.from c.at-part.ensures.from c.at-part.ensures.same found.0 (omega (arith, found.0, found.1));
      bounded = λ n low high. c.at-part.ensures.bounded n;
    }
