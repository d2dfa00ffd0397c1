use Rattle.std.proofs.Common.{◌++◌, drop, map}
use Rattle.agenda_policy.specs.Comments.{AreSame, codes_in_lines}
use Rattle.agenda_policy.proofs.comments.codes_in_lines.Given as goal

-- the codes so far, with those of the lines that are left
abbrev pub invariant-loop-line : goal.invariant-loop-line
invariant-loop-line l =
    AreSame (l.codes.items ++ codes_in_lines (map (λ line. line.now) (drop l.line-index l.lines)))
    (codes_in_lines (map (λ line. line.now) l.lines))
