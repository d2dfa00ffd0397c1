-- Values and forms that the worked rows use.
use Rattle.std.specs.Prelude.{◌≡◌, ℕ, List, map}
use Rattle.plan_sets.specs.declared.civil.Civil.{Civil}

-- in each row of a table, a function gives for the first part what the second part says
abbrev pub RowsHold : {A B : Type 0} → (A → B) → List (A × B) → Type 0
RowsHold f rows = map (λ row. f row.0) rows ≡ map (λ row. row.1) rows

-- civil fields of a minute of 2024
unfoldable pub at_minute : ℕ → ℕ → ℕ → ℕ → ℕ → Civil
at_minute month day weekday hour minute = record {
  year = 2024;
  month = month;
  day = day;
  weekday = weekday;
  hour = hour;
  minute = minute;
  second = 0;
}
