use Rattle.std.proofs.Common.{◌≡◌}
use Rattle.plan_zones.specs.Changes.{year_start, Covers}
use Rattle.plan_zones.proofs.changes.changes_of.Given as goal

abbrev pub invariant-loop-year : goal.invariant-loop-year
invariant-loop-year l = record {
  begin : l.start ≡ year_start l.year;
  covered : Covers l.zone l.changes.items l.start;
}
