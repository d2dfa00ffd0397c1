-- How much of a line is put, and how its characters are shown (agenda).
use Rattle.std.specs.Prelude.{ℕ, ◌-◌, ◌&&◌, nat_le, Bool, false, if◌then◌else◌, List, [], ◌∷◌, ◌++◌, is_none, is_some, unwrap_or}
use Rattle.std.specs.Char.{encode_utf8}
use Rattle.std.specs.List.{flat_map, fold, list_all}
use Rattle.unicode_width.specs.Width.{char_width}
use Rattle.agenda_table.specs.declared.room.Room.{Room}
use Rattle.agenda_table.specs.declared.room.Room.TheVariants.{All, Left, Full}

-- the columns of a terminal that a character takes by itself (UAX #11); a control character takes one, as its `?` does
abbrev pub columns_of : ℕ → ℕ
columns_of c = unwrap_or (char_width false c) 1

-- a character as it is shown: a terminal gets `?` for a control character
abbrev pub shown_char : (terminal : Bool) → ℕ → ℕ
shown_char terminal c = if terminal && is_none (char_width false c) then 63 else c

-- a text has no control characters
abbrev pub is_printable : List ℕ → Bool
is_printable text = list_all (λ c. is_some (char_width false c)) text

-- the bytes of a text as it is shown
unfoldable pub shown_bytes : (terminal : Bool) → List ℕ → List ℕ
shown_bytes terminal text = flat_map (λ c. encode_utf8 (shown_char terminal c)) text

-- the room after a character: one that doesn't fit ends the line
abbrev pub room_after : Room → ℕ → Room
room_after All c = All
room_after (Left columns) c = if nat_le (columns_of c) columns then Left (columns - columns_of c) else Full
room_after Full c = Full

-- a character, if there is room for it
abbrev pub kept_char : Room → ℕ → List ℕ
kept_char All c = c ∷ []
kept_char (Left columns) c = if nat_le (columns_of c) columns then c ∷ [] else []
kept_char Full c = []

-- the first characters of a text, as many as there is room for
abbrev pub kept : Room → List ℕ → List ℕ
kept room [] = []
kept room (c ∷ text) = kept_char room c ++ kept (room_after room c) text

-- the room after a text
abbrev pub room_behind : Room → List ℕ → Room
room_behind room text = fold room_after room text
