use Rattle.std.proofs.Common.{◌≡◌, ◌++◌, ◌≤◌, length, map}
use Rattle.plan_units.specs.UnitDirs.{cuts_below, cuts_of}
use Rattle.plan_units.proofs.unit_dirs.cuts_of.Given as goal

abbrev pub decreases-loop-place : goal.decreases-loop-place
decreases-loop-place l = l.place

abbrev pub invariant-loop-place : goal.invariant-loop-place
invariant-loop-place l = record {
  inside : l.place ≤ length l.text;
  left : map (λ cut. cut.now) l.cuts.items ++ cuts_below l.text l.place ≡ cuts_of l.text;
}
