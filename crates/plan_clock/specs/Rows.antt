-- What a clock shows, by its rows.
use Rattle.std.specs.Prelude.{◌≡◌, ◌≢◌, ℕ, ◌+◌, ◌-◌, ◌≤◌, ◌<◌, ℤ, pos, negsuc, neg_ℤ, ◌+ℤ◌, ◌-ℤ◌, int_le, int_lt, nat_le, Bool, true, ◌&&◌, ◌==◌, if◌then◌else◌, List, get_or, length, refl}
use Rattle.std.specs.List.{prefix_len}
use Rattle.std.specs.Coded.{Coded, code_by, coded×, coded_ℕ, coded_ℤ}
use Rattle.plan_clock.specs.declared.row.Change.{Change}
use Rattle.plan_clock.specs.declared.row.Row.{Row}

-- a change is encoded as the pair of its fields
abbrev pub change_code : Coded Change
change_code =
    code_by (ℕ × ℤ) (coded× coded_ℕ coded_ℤ) (λ c. (c.second, c.offset)) (λ t. record { second = t.0; offset = t.1 }) (λ _. refl)

-- a placeholder for a change after the last one
abbrev pub no_change : Change
no_change = record { second = 0; offset = pos 0 }

-- the row of UTC, and of any clock before its first change
abbrev pub utc : Row
utc = record { second = 0; before = pos 0; offset = pos 0 }

-- the row after the first `passed` changes: it starts with the last of them, and the offset before it is that of the change
-- before; the first change of a clock has none before it, and its row has its offset twice
abbrev pub row_after : List Change → ℕ → Row
row_after changes passed =
    let last = get_or changes (passed - 1) no_change in
    if passed == 0
    then utc
    else record { second = last.second; before = (get_or changes (passed - 1 - 1) no_change).offset; offset = last.offset }

-- the row of second n: that of the last change at or before it (tzfile(5))
unfoldable pub row_at : List Change → ℕ → Row
row_at changes n = row_after changes (prefix_len (λ (change : Change). nat_le change.second n) changes)

-- the offset from UTC at second n: that of the last change at or before it, or 0 if there is none (tzfile(5))
abbrev pub offset_of : List Change → ℕ → ℤ
offset_of changes n = (row_at changes n).offset

-- what the clock shows at second n of a row: the second of UTC that has these civil fields
abbrev pub shown : Row → ℕ → ℤ
shown row n = pos n +ℤ row.offset

-- what the clock would show at the row's second without the change
abbrev pub due : Row → ℤ
due row = pos row.second +ℤ row.before

-- the second of a row at which the clock shows m
abbrev pub unshown : Row → ℕ → ℤ
unshown row m = pos m +ℤ neg_ℤ row.offset

-- the size of the change at the start of the row: positive for a gap, negative for a fold
abbrev pub size : Row → ℤ
size row = row.offset -ℤ row.before

-- what the clock shows at second n of a row was already shown before the change
abbrev pub is_repeated : Row → ℕ → Bool
is_repeated row n = int_lt (shown row n) (due row)

-- the number as a natural number; 0 if it is negative
abbrev pub natural : ℤ → ℕ
natural (pos n) = n
natural (negsuc n) = 0

-- the maximum distance of a clock from UTC: 26 hours (RFC 9636, utoff)
abbrev pub most_offset : ℕ
most_offset = 93_600

-- whether an offset is within this distance
abbrev pub is_near : ℤ → Bool
is_near offset = int_le (neg_ℤ (pos most_offset)) offset && int_le offset (pos most_offset)

-- whether both offsets of a row are within this distance
abbrev pub is_bounded : Row → Bool
is_bounded row = is_near row.before && is_near row.offset

-- these are the changes of a clock (RFC 9636): the first, if there is one, is at second 0; each later one is after the one before
-- it and has another offset; no offset is more than 26 hours from UTC
pub record AreChanges (changes : List Change) : Type 0 where
  pub first : 0 < length changes → (get_or changes 0 no_change).second ≡ 0
  pub ascends : (k : ℕ) → k + 1 < length changes → (get_or changes k no_change).second < (get_or changes (k + 1) no_change).second
  pub differs : (k : ℕ) → k + 1 < length changes → (get_or changes k no_change).offset ≢ (get_or changes (k + 1) no_change).offset
  pub bounded : (k : ℕ) → is_near (get_or changes k no_change).offset ≡ true

-- the first `passed` changes are at or before second n, and all others are after it
pub record HavePassed (changes : List Change) (n passed : ℕ) : Type 0 where
  pub bound : passed ≤ length changes
  pub begun : (k : ℕ) → k < passed → (get_or changes k no_change).second ≤ n
  pub next : passed < length changes → n < (get_or changes passed no_change).second
