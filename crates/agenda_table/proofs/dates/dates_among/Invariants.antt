use Rattle.std.proofs.Common.{◌≡◌, ◌≤◌, ℕ, drop, map}
use Rattle.std.specs.Prelude.{◌||◌}
use Rattle.plan_sets.specs.Limits.{end_second}
use Rattle.agenda_table.specs.Dates.{shown_by}
use Rattle.agenda_table.specs.Keys.{falls_after, falls_among, second_of}
use Rattle.agenda_table.specs.Rows.{has_date}
use Rattle.agenda_table.proofs.dates.dates_among.Given as goal

-- the dates so far, and those of the neighbours that are left, are those of all neighbours
abbrev pub invariant-loop-key : goal.invariant-loop-key
invariant-loop-key l =
    ((date : ℕ) → (has_date l.dates.items date
    || falls_after (shown_by l.clock) date l.before.second (map second_of (drop l.key-index l.keys)))
    ≡ falls_among (shown_by l.clock) date (map second_of l.keys))
    × ((l.before.shown ≡ shown_by l.clock l.before.second) × ((l.before.second ≤ end_second) × (l.before.shown ≤ end_second)))
