use Rattle.std.proofs.Common.{length}
use Rattle.agenda_machine.proofs.root.+root_of.Given as goal

-- a slash is cut off before each call
abbrev pub decreases-root_of : goal.decreases-root_of
decreases-root_of l = length l.dir.now
