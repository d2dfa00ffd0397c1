use Rattle.plan_baseline.specs.Reading.{head_of}
use Rattle.plan_baseline.proofs.LoopLemmas.{IsAt}
use Rattle.plan_baseline.proofs.baseline.places_of.Given as goal

-- the lines so far are read
abbrev pub invariant-loop-number : goal.invariant-loop-number
invariant-loop-number l =
    IsAt l.text l.header.start (head_of l.header) l.number l.from l.left l.tails.items l.places.items
