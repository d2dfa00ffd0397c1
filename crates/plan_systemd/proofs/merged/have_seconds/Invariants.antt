use Rattle.plan_systemd.proofs.MergedLemmas.{HaveBelow}
use Rattle.plan_systemd.proofs.merged.have_seconds.Given as goal

-- each event so far has the seconds, and no clock
abbrev pub invariant-loop-i : goal.invariant-loop-i
invariant-loop-i l = HaveBelow l.seconds l.events l.i
