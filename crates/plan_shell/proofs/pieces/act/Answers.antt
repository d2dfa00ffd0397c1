use Rattle.std.proofs.Common.{ap, map}
use Rattle.plan_shell.specs.Pieces.{cut_at}
use Rattle.plan_shell.proofs.PieceLemmas.{extended}
use Rattle.plan_shell.proofs.pieces.act.Goals as goal

pub returns-in-Extend-clause-cut : goal.returns-in-Extend-clause-cut
returns-in-Extend-clause-cut c =
    rw c.in-Extend.is
    (ap (cut_at (map (λ piece. piece.now) c.args.pieces.now.items))
    (extended c.args.text.now c.args.start c.args.i c.requires.begun c.requires.within))
