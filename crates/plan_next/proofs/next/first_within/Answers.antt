use Rattle.std.proofs.Common.{◌∙◌, sym, ap, subst, arith}
use Rattle.std.specs.Option.{option_copied}
use Rattle.plan_next.specs.declared.search.Pattern.TheVariants.{Event}
use Rattle.plan_next.specs.Search.{starts_by}
use Rattle.plan_next.specs.Starts.{IsFirstIn}
use Rattle.plan_next.proofs.EventsLemmas.{more_events, none_past}
use Rattle.plan_next.proofs.next.first_within.Goals as goal
use Rattle.plan_next.proofs.next.first_within.Goals.{in-Some, in_default}

pub loop-i-preserved : goal.loop-i-preserved
loop-i-preserved c =
    elim c.match-get.branch [
      | in-Some w ↦
          let is = sym c.get.ensures ∙ ap option_copied w.in-Some.is in
          let next = subst (λ before. IsFirstIn (starts_by (Event w.in-Some.event)) c.args.since before w.first_start.result)
          w.unwrap_or-before.ensures w.first_start.ensures in
          rw (w.first-is, w.or-first.ensures)
          (more_events c.args.events.now c.loop-i.i c.args.since c.args.end w.in-Some.event c.loop-i.first w.first_start.result
          is c.loop-i.invariant next)
      | in_default w ↦ absurd (omega (arith, none_past c.args.events.now c.loop-i.i (sym c.get.ensures ∙ ap option_copied w.in_default.is)))
    ]
