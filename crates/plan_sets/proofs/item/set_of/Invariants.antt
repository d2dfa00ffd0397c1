use Rattle.std.proofs.Common.{◌≡◌, ℕ, take, None}
use Rattle.plan_sets.specs.Values.{has_value}
use Rattle.plan_sets.specs.Items.{first_fault, is_held}
use Rattle.plan_sets.proofs.item.set_of.Given as goal

-- the items so far are valid, and the set has their values
abbrev pub invariant-loop-item : goal.invariant-loop-item
invariant-loop-item l = record {
  base : l.values.base ≡ l.lo;
  faultless : first_fault l.lo l.hi (take l.item-index l.items) ≡ None;
  held : (v : ℕ) → has_value l.values v ≡ is_held (take l.item-index l.items) l.lo l.hi v;
}
