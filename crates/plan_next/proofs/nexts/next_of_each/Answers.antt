-- Answers the loop of `next_of_each`, and its clause `kept`.
-- The invariant: for events before place i the next start after `start` is kept, and for the others still the one at or
-- after `start`; `earliest` is the minimum so far. A turn sets one place of `kept` and takes the earlier of two next starts.
use Rattle.std.proofs.Common.{◌+◌, ◌∙◌, ◌<◌, length, refl, sym, ap, arith}
use Rattle.std.proofs.lemmas.Grind.{common_steps}
use Rattle.std.specs.Option.{option_copied}
use Rattle.std.proofs.lemmas.Option.{slice_get_within}
use Rattle.plan_next.proofs.ClockLemmas.{none_at}
use Rattle.plan_next.proofs.EventsLemmas.{more_nexts, none_past}
use Rattle.plan_next.proofs.KeptLemmas.{AreNexts-start, AreKept-more, AreLeft-more}
use Rattle.plan_next.proofs.nexts.next_of_each.Goals as goal
use Rattle.plan_next.proofs.nexts.next_of_each.Goals.{in-Some, in_default}
use Rattle.std.proofs.lemmas.Bool.Decides.{nat_tests}

pub loop-i-preserved : goal.loop-i-preserved
loop-i-preserved c =
    elim c.match-get.branch [
      | in-Some w ↦
          let event = w.in-Some.event.now in
          let is = sym c.get.ensures ∙ ap option_copied w.in-Some.is in
          let so_far = c.loop-i.invariant in
          let place : c.loop-i.i < length c.loop-i.kept = omega arith in
          record {
            earliest = rw (w.earliest-is, w.min-earliest.ensures)
                (more_nexts c.args.events.now c.loop-i.i (c.args.start + 1) c.args.end c.loop-i.earliest w.next_of_event-next.result
                event is so_far.earliest w.next_of_event-next.ensures);
            kept = rw w.kept-is (AreKept-more c.args.events.now (c.args.start + 1) c.args.end c.loop-i.i w.next_of_event-next.result
                c.loop-i.kept event place is w.next_of_event-next.ensures so_far.kept);
            left = rw w.kept-is (AreLeft-more c.args.events.now c.args.start c.args.end c.loop-i.i w.next_of_event-next.result
                c.loop-i.kept so_far.left);
          }
      | in_default w ↦ absurd (omega (arith, none_past c.args.events.now c.loop-i.i (sym c.get.ensures ∙ ap option_copied w.in_default.is)))
    ]

pub next_of_event-next-requires-clause-utc : goal.next_of_event-next-requires-clause-utc
next_of_event-next-requires-clause-utc c = grind (arith, nat_tests, common_steps, none_at)

pub loop-i-init : goal.loop-i-init
loop-i-init c = record {
  earliest = record { from = omega arith; to = omega arith; none = λ k low high. refl; is = λ lt. absurd (omega arith) };
  kept = λ k event lt is. absurd (omega arith);
  left = λ k event from is. c.requires.kept k event is;
}

pub returns-clause-next : goal.returns-clause-next
returns-clause-next c = grind (arith, common_steps)

pub returns-clause-kept : goal.returns-clause-kept
returns-clause-kept c =
    AreNexts-start c.args.events.now (c.args.start + 1) c.args.end c.loop-i.earliest c.loop-i.kept (returns-clause-next c) c.requires.years
    (λ k event is.
    let place = slice_get_within c.args.events.now k event is in
    c.loop-i.invariant.kept k event (omega arith) is)
