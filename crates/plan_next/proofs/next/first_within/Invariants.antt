use Rattle.std.proofs.Common.{take}
use Rattle.plan_next.specs.Starts.{IsFirstIn}
use Rattle.plan_next.proofs.EventsLemmas.{matched_by}
use Rattle.plan_next.proofs.next.first_within.Given as goal

-- the first start of the events so far
abbrev pub invariant-loop-i : goal.invariant-loop-i
invariant-loop-i l = IsFirstIn (matched_by (take l.i l.events)) l.since l.end l.first
