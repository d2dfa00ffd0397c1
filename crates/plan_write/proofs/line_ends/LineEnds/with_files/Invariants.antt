use Rattle.std.proofs.Common.{◌≡◌, take}
use Rattle.plan_write.specs.Texts.{object_ends}
use Rattle.plan_write.proofs.line_ends.LineEnds.with_files.Given as goal

-- the ends of the objects of the jobs so far
abbrev pub invariant-loop-number : goal.invariant-loop-number
invariant-loop-number l = l.ends.items ≡ object_ends l.files (take l.number l.jobs)
