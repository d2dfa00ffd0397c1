use Rattle.std.proofs.Common.{take}
use Rattle.plan_next.specs.Next.{IsFirstOrEnd}
use Rattle.plan_next.proofs.EventsLemmas.{matched_by}
use Rattle.plan_next.proofs.KeptLemmas.{AreKept}
use Rattle.plan_next.proofs.nexts.first_of_each.Given as goal

-- the earliest start of the events so far; the first start of each of them is kept
abbrev pub invariant-loop-i : goal.invariant-loop-i
invariant-loop-i l = record {
  earliest : IsFirstOrEnd (matched_by (take l.i l.events)) l.from l.end l.earliest;
  kept : AreKept l.events l.from l.end l.i l.kept;
}
