use Rattle.std.proofs.Common.{◌≡◌, ℕ, ◌&&◌, nat_lt}
use Rattle.plan_sets.specs.Values.{has_value}
use Rattle.plan_grammar.specs.Cron.{has_week_day}
use Rattle.plan_grammar.proofs.cron.week_days.Given as goal

abbrev pub invariant-loop-day : goal.invariant-loop-day
invariant-loop-day l = record {
  base : l.days.base ≡ 0;
  members : (v : ℕ) → has_value l.days v ≡ (nat_lt v l.day && has_week_day l.written v);
}
