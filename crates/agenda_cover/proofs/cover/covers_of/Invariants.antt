use Rattle.std.proofs.Common.{◌≡◌, drop}
use Rattle.agenda_cover.specs.Cover.{covers}
use Rattle.agenda_cover.proofs.CountLemmas.{totals}
use Rattle.agenda_cover.proofs.cover.covers_of.Given as goal

-- what is counted of each job and what is left are together what it covers
abbrev pub invariant-loop-entry : goal.invariant-loop-entry
invariant-loop-entry l = totals l.jobs l.upto (drop l.entry-index l.entries) 0 l.covers.items ≡ covers l.agenda l.jobs
