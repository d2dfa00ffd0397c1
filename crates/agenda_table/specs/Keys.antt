-- The order in which the local times of a table are sorted, to find neighbours of a date (agenda).
use Rattle.std.specs.Prelude.{ℕ, ◌+◌, ◌*◌, ◌/◌, ◌%◌, ◌||◌, min, Bool, false, if◌then◌else◌, List, [], ◌∷◌}
use Rattle.plan_clock.specs.declared.row.Change.{Change}
use Rattle.agenda_table.specs.Dates.{is_local, is_put_back, shown_by}

-- the place of a time in the order, by its date, and then by the second
abbrev pub key_of : (shown n : ℕ) → ℕ
key_of shown n = shown / 86400 * 34359738368 + n

-- the same, if it is a local time
abbrev pub keys_of : (shown : ℕ → ℕ) → (local : ℕ → Bool) → ℕ → List ℕ
keys_of shown local n = if local n then key_of (shown n) n ∷ [] else []

-- the places of a time of a table by a clock, if it is a local time
abbrev pub keys_in : List Change → ℕ → List ℕ
keys_in clock n = keys_of (shown_by clock) (is_local clock) n

-- the time at a place
abbrev pub second_of : (key : ℕ) → ℕ
second_of key = min (key % 34359738368) 32503680000

-- whether the clock is put back between two neighbours of this date, of which the first is given
abbrev pub falls_after : (shown : ℕ → ℕ) → (date : ℕ) → (before : ℕ) → List ℕ → Bool
falls_after shown date before [] = false
falls_after shown date before (next ∷ later) = is_put_back shown date before next || falls_after shown date next later

-- whether the clock is put back between two neighbours of this date
abbrev pub falls_among : (shown : ℕ → ℕ) → (date : ℕ) → List ℕ → Bool
falls_among shown date [] = false
falls_among shown date (first ∷ later) = falls_after shown date first later
