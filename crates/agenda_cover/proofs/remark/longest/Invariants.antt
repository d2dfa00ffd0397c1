use Rattle.std.proofs.Common.{◌≡◌, drop, max}
use Rattle.agenda_cover.specs.Remark.{longest}
use Rattle.agenda_cover.proofs.remark.longest.Given as goal

-- the longest so far or the longest that is left
abbrev pub invariant-loop-from : goal.invariant-loop-from
invariant-loop-from l = max l.longest (longest (drop l.from-index l.gaps)) ≡ longest l.gaps
