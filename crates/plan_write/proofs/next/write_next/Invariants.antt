use Rattle.std.proofs.Common.{◌≡◌, ◌+◌, ◌≤◌, length, take, drop}
use Rattle.std.specs.List.{flat_map}
use Rattle.plan_sets.specs.Limits.{end_second}
use Rattle.plan_next.specs.Starts.{starts}
use Rattle.plan_streams.specs.Writer.{Takes}
use Rattle.plan_write.specs.Next.{moment_line}
use Rattle.plan_write.proofs.next.write_next.Given as goal

-- the writer took a line for each start so far, and those after the latest are left
abbrev pub invariant-loop-listed : goal.invariant-loop-listed
invariant-loop-listed g l =
    let all = starts l.rule (l.fn.after + 1) end_second in
    Takes g.S.Stream.holds g.S.Stream.takes_all l.initial.lines l.lines (flat_map (moment_line l.format) (take l._listed all))
    × (starts l.rule (l.latest + 1) end_second ≡ drop l._listed all) × (l._listed ≤ length all)
