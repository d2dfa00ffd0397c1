use Rattle.std.proofs.Common.{◌≡◌, ◌++◌}
use Rattle.std.specs.Vec.Iter.{into_iter_items}
use Rattle.agenda_policy.specs.Judged.{IsOf, judged}
use Rattle.agenda_policy.proofs.judging.judged.Given as goal

-- the findings so far, with those that are left
abbrev pub invariant-loop-one : goal.invariant-loop-one
invariant-loop-one l = record {
  kept : l.kept.items ++ judged l.policy l.sources (into_iter_items l.one-iterator) ≡ judged l.policy l.sources l.fn.found.items;
  last : IsOf l.sources l.last;
}
