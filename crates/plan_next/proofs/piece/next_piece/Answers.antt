-- A piece does not end before it begins.
use Rattle.std.proofs.Common.{rules}
use Rattle.plan_next.proofs.PieceLemmas.{piece_ordered}
use Rattle.plan_next.proofs.piece.next_piece.Goals as goal

pub invariant_of-result : goal.invariant_of-result
invariant_of-result c = (
  search rules,
  piece_ordered c.deref.result.now c.args.since c.args.upto c.args.most c.in_ok-starts.upto c.requires.part
      c.in_ok-starts.ensures.end c.in_ok-starts.ensures.moves,
)
