use Rattle.std.proofs.Common.{◌≡◌, ◌+◌, ◌≤◌, length, take, drop}
use Rattle.plan_next.specs.Starts.{starts}
use Rattle.plan_sets.specs.Limits.{end_second}
use Rattle.agenda_table.specs.Dates.{AreInYears}
use Rattle.agenda_commands.proofs.next.next_starts.Given as goal

-- the starts so far were found, and those after the latest are left
abbrev pub invariant-loop-listed : goal.invariant-loop-listed
invariant-loop-listed l =
    let all = starts l.rule (l.fn.after + 1) end_second in
    (l.found.items ≡ take l._listed all) × (starts l.rule (l.latest + 1) end_second ≡ drop l._listed all)
    × (l._listed ≤ length all) × AreInYears l.found.items
