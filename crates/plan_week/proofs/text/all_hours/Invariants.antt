use Rattle.std.proofs.Common.{◌≡◌, ℕ, ◌<◌, None, get_or, length}
use Rattle.plan_week.specs.Texts.{all_at}
use Rattle.plan_week.proofs.text.all_hours.Given as goal

-- the hours so far have the starts of all days
abbrev pub invariant-loop-hour : goal.invariant-loop-hour
invariant-loop-hour l = record {
  long : length l.starts-items ≡ 24;
  each : (k : ℕ) → k < l.hour → get_or l.starts-items k None ≡ all_at l.days k;
}
