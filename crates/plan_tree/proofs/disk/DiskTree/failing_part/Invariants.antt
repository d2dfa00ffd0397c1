use denote.Text.{Utf8}
use denote.Shadow.{shadow}
use Rattle.plan_tree.proofs.disk.DiskTree.failing_part.Given as goal

-- the loop ends, and what it keeps of the path is a text
abbrev pub invariant-loop-end : goal.invariant-loop-end
invariant-loop-end l =
    (goal.iterator-loop-end).can_next l.end-iterator × (goal.iterator-loop-end).is_finite l.end-iterator × shadow (Utf8 l.dir)
