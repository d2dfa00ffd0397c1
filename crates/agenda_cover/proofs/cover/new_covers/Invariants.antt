use Rattle.std.proofs.Common.{◌≡◌}
use Rattle.std.specs.Prelude.{replicate}
use Rattle.agenda_cover.proofs.cover.new_covers.Given as goal

-- nothing is counted of the jobs so far
abbrev pub invariant-loop-pushed : goal.invariant-loop-pushed
invariant-loop-pushed l = l.covers.items ≡ replicate l._pushed (l.since, 0)
