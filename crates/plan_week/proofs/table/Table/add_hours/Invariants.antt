use Rattle.std.proofs.Common.{◌≡◌, ℕ, ◌-◌, ◌<◌, ◌≤◌, true}
use Rattle.plan_clock.specs.Rows.{is_bounded, row_at}
use Rattle.plan_week.specs.Table.{first_day, shown_in, table_by}
use Rattle.plan_week.proofs.CountLemmas.{between}
use Rattle.plan_week.proofs.table.Table.add_hours.Given as goal

-- the hours that the clock shows before a second are in the span
abbrev pub invariant-loop-second : goal.invariant-loop-second
invariant-loop-second l = record {
  from : l.agenda.span.since ≤ l.second;
  to : l.second ≤ l.upto;
  first : l.self.first ≡ first_day l.agenda.span;
  days : l.self.days.items ≡ table_by (shown_in l.clock (between l.agenda.span.since l.second)) l.agenda.span;
  bounded : (n : ℕ) → l.agenda.span.since ≤ n → n < l.second → is_bounded (row_at l.clock n) ≡ true;
}

abbrev pub decreases-loop-second : goal.decreases-loop-second
decreases-loop-second l = l.upto - l.second
