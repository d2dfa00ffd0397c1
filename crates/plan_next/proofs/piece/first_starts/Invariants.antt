use Rattle.std.proofs.Common.{◌≡◌, ◌-◌}
use Rattle.plan_next.specs.Next.{IsFirstOrEnd}
use Rattle.plan_next.specs.Starts.{is_start}
use Rattle.plan_next.specs.Piece.{AreFound}
use Rattle.plan_next.proofs.piece.first_starts.Given as goal

-- all starts up to here were found, and the next one is known
abbrev pub invariant-loop-starts : goal.invariant-loop-starts
invariant-loop-starts l = record {
  found : AreFound l.rule l.since l.upto l.most l.found.items l.reached;
  next : IsFirstOrEnd (is_start l.rule) l.reached l.upto l.starts.since;
  rule : l.starts.rule ≡ l.rule;
  upto : l.starts.upto ≡ l.upto;
}

abbrev pub decreases-loop-starts : goal.decreases-loop-starts
decreases-loop-starts l = l.upto - l.starts.since
