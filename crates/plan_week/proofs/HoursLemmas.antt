-- What a clock shows is in the planner's years, and at most 26 hours from UTC.
use Rattle.std.proofs.Common.{◌≡◌, ℕ, ◌+◌, ◌/◌, ◌<◌, ◌≤◌, true, List, arith}
use Rattle.std.proofs.lemmas.Bool.Decides.{nat_tests}
use Rattle.plan_clock.specs.Rows.{is_bounded, row_at}
use Rattle.plan_clock.specs.declared.row.Change.{Change}
use Rattle.plan_clock.specs.declared.row.Row.{Row}
use Rattle.plan_next.specs.Span.{Bounds}
use Rattle.plan_sets.specs.Limits.{end_second}
use Rattle.plan_week.specs.Hours.{hour_at, local_by_row, local_second}
use Rattle.plan_week.specs.Table.{end_day, first_day}

by_row_in_years : (row : Row) (n : ℕ) → n < end_second → local_by_row row n < end_second
by_row_in_years row n lt = grind (arith, nat_tests)

-- at a second of the planner's years a clock shows one of them
pub local_in_years : (clock : List Change) (n : ℕ) → n < end_second → local_second clock n < end_second
unfolding local_second
local_in_years clock n lt = by_row_in_years (row_at clock n) n lt

not_early : (row : Row) (n : ℕ) → is_bounded row ≡ true → n ≤ local_by_row row n + 93600
not_early row n near = grind (arith, nat_tests)

not_late : (row : Row) (n : ℕ) → is_bounded row ≡ true → local_by_row row n ≤ n + 93600
not_late row n near = grind (arith, nat_tests)

-- the day of the hour that a clock shows at a second of a span is one of those in the table
pub in_table :
    (clock : List Change) (span : Bounds) (n hour : ℕ) → hour ≡ hour_at clock n → is_bounded (row_at clock n) ≡ true →
    span.upto ≤ end_second → span.since ≤ n → n < span.upto → (first_day span ≤ hour / 24) × (hour / 24 < end_day span)
unfolding local_second
in_table clock span n hour is near years from before =
    let early = not_early (row_at clock n) n near in
    let late = not_late (row_at clock n) n near in
    let inside = by_row_in_years (row_at clock n) n (omega arith) in
    (omega arith, omega arith)
