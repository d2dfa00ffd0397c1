use Rattle.std.proofs.Common.{◌≡◌, [], map, drop}
use Rattle.plan_shell.specs.Reading.{start, state_of, steps_from}
use Rattle.plan_shell.proofs.list.read_pieces.Given as goal

-- the steps of the pieces that are left, after what has been read, are those of all pieces
abbrev pub invariant-loop-piece : goal.invariant-loop-piece
invariant-loop-piece l =
    steps_from (map (λ word. word.now) l.words.items) (state_of l.reader) (map (λ piece. piece.now) (drop l.piece-index l.pieces))
    ≡ steps_from [] start (map (λ piece. piece.now) l.pieces)
