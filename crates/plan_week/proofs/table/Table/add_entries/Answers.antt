-- Each entry in the span adds a start to the hour that the clock shows at it. Those of one part of time are added at once.
use Rattle.std.proofs.Common.{◌≡◌, ℕ, ◌+◌, ◌-◌, ◌/◌, ◌<◌, ◌≤◌, ◌⊎◌, List, false, ap, arith, inl, inr, length, sym, ◌∙◌}
use Rattle.std.proofs.lemmas.Bool.{and_left, and_right, le-ltb, lt-leb}
use Rattle.plan_week.specs.Hours.{hour_at}
use Rattle.plan_week.specs.Table.{days_after, days_with, end_day, first_day, found_at, table_by}
use Rattle.plan_week.specs.Week.{count_of, is_inside, starts_in}
use Rattle.plan_week.specs.declared.day.Day.{Day}
use Rattle.plan_week.proofs.CountLemmas.{entry_inside, entry_outside, first_entries, one_after, pending_days, pending_room}
use Rattle.plan_week.proofs.HoursLemmas.{in_table}
use Rattle.plan_week.proofs.table.Table.add_entries.Goals as goal
use Rattle.plan_week.proofs.table.Table.add_entries.Goals.{then-part-second+then-second-part, else-part-second+then-since-second+then-second-upto, else-part-second+else-since-second}

pub add_starts-requires-clause-to : goal.add_starts-requires-clause-to
add_starts-requires-clause-to c = λ some.
    let span = c.args.agenda.now.span in
    let first = first_day span in
    let made = first_entries span c.entries-entries.result.now c.loop-entry.entry-index in
    let len = pending_days (starts_in c.args.clock.now made) first (end_day span - first) c.loop-entry.part.hour c.loop-entry.starts
    c.loop-entry.self.days.items c.loop-entry.invariant.days in
    let place = c.loop-entry.invariant.place some in
    let both = c.loop-entry.self.days.ok.0 in
    omega (arith, len, both, place.0, place.1, c.loop-entry.invariant.first)

pub add_starts-requires-clause-room : goal.add_starts-requires-clause-room
add_starts-requires-clause-room c = λ some.
    let span = c.args.agenda.now.span in
    let first = first_day span in
    let place = c.loop-entry.invariant.place some in
    let room = pending_room c.args.clock.now span c.entries-entries.result.now c.loop-entry.entry-index first (end_day span - first)
    c.loop-entry.part.hour c.loop-entry.starts c.loop-entry.self.days.items c.loop-entry.invariant.few place.0
    (omega (arith, place.0, place.1)) c.loop-entry.invariant.days in
    let same = ap (λ n. count_of (found_at n c.loop-entry.part.hour c.loop-entry.self.days.items)) c.loop-entry.invariant.first in
    omega (arith, room, same)

pub loop-entry-preserved : goal.loop-entry-preserved
loop-entry-preserved c =
    let span = c.args.agenda.now.span in
    let first = first_day span in
    let count = end_day span - first in
    let clock = c.args.clock.now in
    let entries = c.entries-entries.result.now in
    let i = c.loop-entry.entry-index in
    let entry = c.entry-item.result in
    let hour = c.loop-entry.part.hour in
    let starts = c.loop-entry.starts in
    let days = c.loop-entry.self.days.items in
    let known = c.loop-entry.invariant in
    elim c.if-part-second.branch [
      | then-part-second+then-second-part w ↦
          let inside = known.inside c.second-second.result w.if-part-second.true w.if-second-part.true in
          let shown : hour ≡ hour_at clock entry.0 =
          sym (known.hour c.second-second.result w.if-part-second.true w.if-second-part.true) ∙ ap (hour_at clock) c.second-second.ensures in
          let place = known.place inside.2 in
          rw (w.self-is, w.part-is, w.starts-is)
          (record {
            first = known.first;
            days = one_after first hour starts days ∙ ap (λ (ds : List Day). days_with first hour 1 ds) known.days
                ∙ entry_inside clock span entries i first count hour entry c.loop-entry-test.true c.entry-item.is (omega arith)
                (omega arith) shown place.0 (omega (arith, place.0, place.1));
            hour = known.hour;
            inside = λ n from before. (let all = known.inside n from before in (all.0, all.1, omega arith));
            place = λ some. place;
            few = omega arith;
          })
      | else-part-second+then-since-second+then-second-upto w ↦
          let new = w.at-part.result.hour in
          let second = c.second-second.result in
          let found = in_table clock span second new w.at-part.ensures.hour (w.at-part.ensures.bounded second) (omega arith) (omega arith)
          (omega arith) in
          let shown : new ≡ hour_at clock entry.0 = w.at-part.ensures.hour ∙ ap (hour_at clock) c.second-second.ensures in
          let counted : w.add_starts.new.self.days.items ≡ table_by (starts_in clock (first_entries span entries i)) span =
          w.add_starts.ensures.days ∙ ap (λ n. days_after n hour starts days) known.first ∙ known.days in
          rw (w.self-is, w.part-is, w.starts-is)
          (record {
            first = w.add_starts.ensures.first ∙ known.first;
            days = ap (λ (ds : List Day). days_with first new 1 ds) counted
                ∙ entry_inside clock span entries i first count new entry c.loop-entry-test.true c.entry-item.is (omega arith)
                (omega arith) shown found.0 (omega (arith, found.0, found.1));
            hour = λ n from before. w.at-part.ensures.same n (omega arith) before ∙ sym w.at-part.ensures.hour;
            inside = λ n from before. (omega arith, omega arith, omega arith);
            place = λ some. found;
            few = omega arith;
          })
      | else-part-second+else-since-second w ↦
          let out : is_inside span entry.0 ≡ false = elim w.else-since-second.either [
            | inl late ↦ and_right _ _ (le-ltb entry.0 span.upto (omega (arith, late.1)))
            | inr early ↦ and_left _ _ (lt-leb span.since entry.0 (omega (arith, early)))
          ] in
          rw (w.self-is, w.part-is, w.starts-is)
          (record {
            first = known.first;
            days = known.days ∙ entry_outside clock span entries i first count entry c.loop-entry-test.true c.entry-item.is out;
            hour = known.hour;
            inside = known.inside;
            place = known.place;
            few = omega arith;
          })
    ]

pub add_starts-requires-2-clause-to : goal.add_starts-requires-2-clause-to
add_starts-requires-2-clause-to c = λ some.
    let span = c.args.agenda.now.span in
    let first = first_day span in
    let made = first_entries span c.entries-entries.result.now c.loop-entry.entry-index in
    let len = pending_days (starts_in c.args.clock.now made) first (end_day span - first) c.loop-entry.part.hour c.loop-entry.starts
    c.loop-entry.self.days.items c.loop-entry.invariant.days in
    let place = c.loop-entry.invariant.place some in
    let both = c.loop-entry.self.days.ok.0 in
    omega (arith, len, both, place.0, place.1, c.loop-entry.invariant.first)

pub add_starts-requires-2-clause-room : goal.add_starts-requires-2-clause-room
add_starts-requires-2-clause-room c = λ some.
    let span = c.args.agenda.now.span in
    let first = first_day span in
    let place = c.loop-entry.invariant.place some in
    let room = pending_room c.args.clock.now span c.entries-entries.result.now c.loop-entry.entry-index first (end_day span - first)
    c.loop-entry.part.hour c.loop-entry.starts c.loop-entry.self.days.items c.loop-entry.invariant.few place.0
    (omega (arith, place.0, place.1)) c.loop-entry.invariant.days in
    let same = ap (λ n. count_of (found_at n c.loop-entry.part.hour c.loop-entry.self.days.items)) c.loop-entry.invariant.first in
    omega (arith, room, same)
