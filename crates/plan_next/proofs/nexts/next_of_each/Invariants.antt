use Rattle.std.proofs.Common.{◌+◌, take}
use Rattle.plan_next.specs.Next.{IsFirstOrEnd}
use Rattle.plan_next.proofs.EventsLemmas.{matched_by}
use Rattle.plan_next.proofs.KeptLemmas.{AreKept, AreLeft}
use Rattle.plan_next.proofs.nexts.next_of_each.Given as goal

-- the earliest next start of the events so far, for which their next starts are kept; for the others the previous ones
-- are still kept
abbrev pub invariant-loop-i : goal.invariant-loop-i
invariant-loop-i l = record {
  earliest : IsFirstOrEnd (matched_by (take l.i l.events)) (l.start + 1) l.end l.earliest;
  kept : AreKept l.events (l.start + 1) l.end l.i l.kept;
  left : AreLeft l.events l.start l.end l.i l.kept;
}
