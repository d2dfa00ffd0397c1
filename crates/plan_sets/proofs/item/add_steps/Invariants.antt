use Rattle.std.proofs.Common.{◌≡◌, ℕ, ◌-◌, ◌%◌, ◌≤◌, ◌||◌}
use Rattle.plan_sets.specs.Values.{has_value}
use Rattle.plan_sets.proofs.ItemsLemmas.{is_step_before}
use Rattle.plan_sets.proofs.item.add_steps.Given as goal

-- the base is unchanged, and every step before this one was added
abbrev pub invariant-loop-value : goal.invariant-loop-value
invariant-loop-value l = record {
  base : l.values.base ≡ l.fn.values.base;
  from : l.first ≤ l.value;
  to : l.value ≤ l.last;
  is_step : (l.value - l.first) % l.step ≡ 0;
  added : (v : ℕ) → has_value l.values v ≡ (has_value l.fn.values v || is_step_before l.first (l.value - l.first) l.step v);
}

abbrev pub decreases-loop-value : goal.decreases-loop-value
decreases-loop-value l = l.last - l.value
