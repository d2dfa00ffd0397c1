use Rattle.std.proofs.Common.{◌≡◌, drop}
use Rattle.agenda_policy.specs.Nearest.{nearest_of}
use Rattle.agenda_policy.proofs.nearest.nearest_of.Given as goal

-- the nearest so far, and the codes that are left, have the nearest of all codes
abbrev pub invariant-loop-code : goal.invariant-loop-code
invariant-loop-code l = nearest_of l.name l.nearest (drop l.code-index l.more) ≡ nearest_of l.name l.fn.first l.more
