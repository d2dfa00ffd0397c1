use Rattle.std.proofs.Common.{◌≡◌, ℕ, ◌/◌, ◌<◌, ◌≤◌, take}
use Rattle.plan_week.specs.Hours.{hour_at}
use Rattle.plan_week.specs.Table.{days_after, end_day, first_day, table_by}
use Rattle.plan_week.specs.Week.{starts_in}
use Rattle.plan_week.proofs.table.Table.add_entries.Given as goal

-- the entries so far are counted, but for those that are still to be added to the hour of a part of the span
abbrev pub invariant-loop-entry : goal.invariant-loop-entry
invariant-loop-entry l = record {
  first : l.self.first ≡ first_day l.agenda.span;
  days : days_after (first_day l.agenda.span) l.part.hour l.starts l.self.days.items
      ≡ table_by (starts_in l.clock (record { span = l.agenda.span; entries = take l.entry-index l.entries })) l.agenda.span;
  hour : (n : ℕ) → l.part.from ≤ n → n < l.part.upto → hour_at l.clock n ≡ l.part.hour;
  inside : (n : ℕ) → l.part.from ≤ n → n < l.part.upto → (l.agenda.span.since ≤ n) × (n < l.agenda.span.upto) × (0 < l.starts);
  place : 0 < l.starts → (first_day l.agenda.span ≤ l.part.hour / 24) × (l.part.hour / 24 < end_day l.agenda.span);
  few : l.starts ≤ l.entry-index;
}
