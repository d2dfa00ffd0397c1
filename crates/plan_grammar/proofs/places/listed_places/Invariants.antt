use Rattle.std.proofs.Common.{◌≡◌, ℕ, ◌-◌, ◌&&◌}
use Rattle.plan_sets.specs.Values.{has_value, is_among}
use Rattle.plan_grammar.specs.Event.{is_listed_place}
use Rattle.plan_grammar.proofs.places.listed_places.Given as goal

-- the set so far holds the listed places before this one
abbrev pub invariant-loop-place : goal.invariant-loop-place
invariant-loop-place l = record {
  base : l.places.base ≡ 1;
  members : (v : ℕ) → has_value l.places v ≡ (is_among 1 (l.place - 1) v && is_listed_place l.items v);
}
