use Rattle.std.proofs.Common.{◌≡◌, ℕ, ◌+◌, ◌-◌, ◌/◌, ◌%◌, ◌<◌, ◌≤◌, true, length}
use Rattle.plan_match.specs.declared.rule.Rule.TheVariants as rule
use Rattle.plan_next.specs.Piece.{AreFound}
use Rattle.plan_next.specs.Starts.{is_start}
use Rattle.plan_next.proofs.minutes.add_minutes.Given as goal

-- all starts up to the last one are found
abbrev pub invariant-loop : goal.invariant-loop
invariant-loop l = record {
  from : l.start ≤ l.last;
  before : l.last < l.part.upto;
  is : is_start (rule.Cron l.rule) l.last ≡ true;
  minute : l.minute ≡ (l.part.shown + (l.last - l.start)) / 60 % 60;
  many : length l.found.items ≡ l.counter;
  found : (since : ℕ) → AreFound (rule.Cron l.rule) since l.upto l.most l.fn.found.items (l.start + 1)
      → AreFound (rule.Cron l.rule) since l.upto l.most l.found.items (l.last + 1);
}
