use Rattle.std.proofs.Common.{take}
use Rattle.std.specs.List.{flat_map}
use Rattle.plan_streams.specs.Writer.{Takes}
use Rattle.plan_write.specs.Scripts.{script_line}
use Rattle.plan_write.specs.Upcoming.{start_or_none}
use Rattle.plan_write.proofs.scripts.put_paths.Given as goal

-- the writer took the lines of all scripts so far
abbrev pub invariant-loop-path : goal.invariant-loop-path
invariant-loop-path g l =
    Takes g.S.Stream.holds g.S.Stream.takes_all l.initial.lines l.lines
    (flat_map (script_line l.local l.name (start_or_none l.second)) (take l.path-index l.paths))
