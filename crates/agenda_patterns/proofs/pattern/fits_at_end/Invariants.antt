use Rattle.std.proofs.Common.{◌≡◌, ◌+◌, length}
use Rattle.agenda_patterns.specs.Pattern.{any_suffix, fits}
use Rattle.agenda_patterns.proofs.pattern.fits_at_end.Given as goal

-- what is left decides
abbrev pub invariant-loop-name : goal.invariant-loop-name
invariant-loop-name l = any_suffix (fits l.fn.pattern) l.fn.name ≡ any_suffix (fits l.pattern) l.name

abbrev pub decreases-loop-name : goal.decreases-loop-name
decreases-loop-name l = length l.pattern + length l.name
