use Rattle.std.proofs.Common.{◌≡◌, ℕ, ◌+◌, ◌-◌, ◌<◌, ◌≤◌, true, get_or}
use Rattle.plan_sets.specs.Values.{has_value}
use Rattle.plan_next.specs.Next.{IsFirstOrEnd}
use Rattle.plan_next.proofs.minutes.keep_next_minutes.Given as goal

-- the next minute is kept for each minute before this one, which is one of them or the hour's end
abbrev pub invariant-loop-minute : goal.invariant-loop-minute
invariant-loop-minute l = record {
  within : l.minute ≤ 60;
  is : l.minute < 60 → has_value l.minutes l.minute ≡ true;
  kept : (m : ℕ) → m < l.minute → has_value l.minutes m ≡ true → IsFirstOrEnd (has_value l.minutes) (m + 1) 60 (get_or l.kept m 0);
}

abbrev pub decreases-loop-minute : goal.decreases-loop-minute
decreases-loop-minute l = 60 - l.minute
