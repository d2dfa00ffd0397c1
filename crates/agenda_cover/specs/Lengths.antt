-- Lengths as people read them (agenda).
use Rattle.std.specs.Prelude.{ℕ, ◌/◌, ◌%◌, nat_lt, if◌then◌else◌, List, ◌++◌, codes, decimal}
use Rattle.agenda_table.specs.Times.{two_units}

-- a length in at most two units, the larger first, rounded down: hours and minutes, or minutes and seconds
unfoldable pub length_text : (seconds : ℕ) → List ℕ
length_text seconds =
    if nat_lt seconds 60 then decimal seconds ++ codes " s" else
    if nat_lt seconds 3600 then two_units (seconds / 60) (codes " min") (seconds % 60) (codes " s") else
    two_units (seconds / 3600) (codes " h") (seconds % 3600 / 60) (codes " min")
