-- Gaps, which are in the planner's years (agenda).
use Rattle.std.specs.Prelude.{ℕ, ◌&&◌, nat_le, List, IsTrue}
use Rattle.std.specs.List.{list_all}
use Rattle.plan_sets.specs.Limits.{end_second}

-- the starts and ends of gaps are in the planner's years, or at their end
abbrev pub AreGaps : List (ℕ × ℕ) → Type 0
AreGaps gaps = IsTrue (list_all (λ gap. nat_le gap.0 end_second && nat_le gap.1 end_second) gaps)
