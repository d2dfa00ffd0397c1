use Rattle.std.specs.List.{flat_map}
use Rattle.plan_streams.specs.Writer.{Takes}
use Rattle.plan_write.specs.Shown.{shown_char}
use Rattle.plan_write.proofs.shown.put_shown.Given as goal

-- the writer took the characters so far
abbrev pub invariant-loop-c : goal.invariant-loop-c
invariant-loop-c g l =
    Takes g.S.Stream.holds g.S.Stream.takes_all l.initial.lines l.lines (flat_map shown_char l.yielded)
