use Rattle.std.proofs.Common.{◌≡◌, ◌≤◌, [], map, drop}
use Rattle.std.specs.List.{slice_range}
use Rattle.plan_shell.specs.declared.modes.Mode.TheVariants.{Between}
use Rattle.plan_shell.specs.Pieces.{cut_at, pieces_from}
use Rattle.plan_shell.proofs.pieces.pieces.Given as goal

-- the pieces of what is left, after those so far, are those of the text
abbrev pub invariant-loop-i : goal.invariant-loop-i
invariant-loop-i l = record {
  begun : l.start ≤ l.i;
  left : pieces_from l.mode (cut_at (map (λ piece. piece.now) l.pieces.items) (slice_range l.text l.start l.i)) (drop l.i l.text)
      ≡ pieces_from Between (cut_at [] []) l.text;
}
