use Rattle.std.proofs.Common.{◌≡◌, map, take}
use Rattle.plan_write.specs.Texts.{line_end}
use Rattle.plan_write.proofs.line_ends.LineEnds.new.Given as goal

-- the ends of the lines of the jobs so far
abbrev pub invariant-loop-number : goal.invariant-loop-number
invariant-loop-number l = l.ends.items ≡ map (line_end l.json) (take l.number l.jobs)
