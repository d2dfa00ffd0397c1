use Rattle.agenda_patterns.proofs.PatternLemmas.{Passed}
use Rattle.agenda_patterns.proofs.pattern.compare_head.Given as goal

abbrev pub invariant-loop-at : goal.invariant-loop-at
invariant-loop-at l = Passed l.pattern l.name l.at
