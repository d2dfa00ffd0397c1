use Rattle.std.proofs.Common.{◌∙◌, ◌<◌, length, sym, ap, arith}
use Rattle.std.proofs.lemmas.Grind.{common_steps}
use Rattle.std.specs.Option.{option_copied}
use Rattle.std.proofs.lemmas.Option.{slice_get_within}
use Rattle.plan_next.proofs.EventsLemmas.{more_nexts, none_past}
use Rattle.plan_next.proofs.KeptLemmas.{AreNexts-start, AreKept-more}
use Rattle.plan_next.proofs.nexts.first_of_each.Goals as goal
use Rattle.plan_next.proofs.nexts.first_of_each.Goals.{in-Some, in_default}

pub loop-i-preserved : goal.loop-i-preserved
loop-i-preserved c =
    elim c.match-get.branch [
      | in-Some w ↦
          let event = w.in-Some.event.now in
          let is = sym c.get.ensures ∙ ap option_copied w.in-Some.is in
          let so_far = c.loop-i.invariant in
          let place : c.loop-i.i < length c.loop-i.kept = omega arith in
          record {
            earliest = rw (w.earliest-is, w.min-earliest.ensures)
                (more_nexts c.args.events.now c.loop-i.i c.args.from c.args.end c.loop-i.earliest w.first_of_event-next.result event
                is so_far.earliest w.first_of_event-next.ensures);
            kept = rw w.kept-is (AreKept-more c.args.events.now c.args.from c.args.end c.loop-i.i w.first_of_event-next.result
                c.loop-i.kept event place is w.first_of_event-next.ensures so_far.kept);
          }
      | in_default w ↦ absurd (omega (arith, none_past c.args.events.now c.loop-i.i (sym c.get.ensures ∙ ap option_copied w.in_default.is)))
    ]

pub returns-clause-next : goal.returns-clause-next
returns-clause-next c = grind (arith, common_steps)

pub returns-clause-kept : goal.returns-clause-kept
returns-clause-kept c =
    AreNexts-start c.args.events.now c.args.from c.args.end c.loop-i.earliest c.loop-i.kept (returns-clause-next c) c.requires.years
    (λ k event is.
    let place = slice_get_within c.args.events.now k event is in
    c.loop-i.invariant.kept k event (omega arith) is)
