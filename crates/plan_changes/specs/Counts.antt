-- How many starts are left of each that was counted.
use Rattle.std.specs.Prelude.{ℕ, ◌==◌, if◌then◌else◌, List, slice_index_or}
use Rattle.plan_changes.specs.declared.counts.Count.{Count}
use Rattle.plan_changes.specs.declared.keys.Key.{Key}

-- no starts are left
abbrev pub no_count : Count
no_count = record { second = 0; left = 0 }

-- how many starts like one are left
abbrev pub left : List Count → Key → ℕ
left counts key =
    let count = slice_index_or counts key.runs no_count in
    if count.second == key.second then count.left else 0
