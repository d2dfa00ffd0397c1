-- What is kept of texts that come one after the other.
use Rattle.std.proofs.Common.{◌≡◌, ℕ, Bool, true, false, true≢false, List, [], ◌∷◌, ◌++◌, refl, ap, sym, ◌∙◌, append_assoc, append-nil}
use Rattle.std.proofs.lemmas.Bool.{and_parts}
use Rattle.std.proofs.lemmas.Grind.{flat_map-append}
use Rattle.std.proofs.lemmas.Str.{encodes-chars}
use Rattle.std.specs.Prelude.{if◌then◌else◌, is_none, is_some, IsUtf8, Option, None, Some, chars, encode_utf8_all}
use Rattle.unicode_width.specs.Width.{char_width}
use Rattle.std.specs.Char.{encode_utf8}
use Rattle.agenda_table.specs.Room.{is_printable, kept, kept_char, room_after, room_behind, shown_bytes, shown_char}
use Rattle.agenda_table.specs.declared.room.Room.{Room}
use Rattle.agenda_table.specs.declared.room.Room.TheVariants.{All}

-- two texts
pub kept_both : (room : Room) (xs ys : List ℕ) → kept room (xs ++ ys) ≡ kept room xs ++ kept (room_behind room xs) ys
kept_both room [] ys = refl
kept_both room (c ∷ xs) ys =
    ap (λ text. kept_char room c ++ text) (kept_both (room_after room c) xs ys)
    ∙ sym (append_assoc (kept_char room c) (kept (room_after room c) xs) (kept (room_behind (room_after room c) xs) ys))

pub room_behind_both : (room : Room) (xs ys : List ℕ) → room_behind room (xs ++ ys) ≡ room_behind (room_behind room xs) ys
room_behind_both room [] ys = refl
room_behind_both room (c ∷ xs) ys = room_behind_both (room_after room c) xs ys

pub shown_both : (terminal : Bool) (xs ys : List ℕ) → shown_bytes terminal (xs ++ ys) ≡ shown_bytes terminal xs ++ shown_bytes terminal ys
unfolding shown_bytes
shown_both terminal xs ys = flat_map-append (λ c. encode_utf8 (shown_char terminal c)) xs ys

-- one more character
pub kept_more :
    (terminal : Bool) (room : Room) (xs : List ℕ) (c : ℕ) →
    shown_bytes terminal (kept room xs) ++ shown_bytes terminal (kept_char (room_behind room xs) c)
    ≡ shown_bytes terminal (kept room (xs ++ c ∷ []))
kept_more terminal room xs c =
    sym (shown_both terminal (kept room xs) (kept_char (room_behind room xs) c))
    ∙ ap (λ text. shown_bytes terminal (kept room xs ++ text)) (sym (append-nil (kept_char (room_behind room xs) c)))
    ∙ ap (shown_bytes terminal) (sym (kept_both room xs (c ∷ [])))

-- a line with all room
pub kept_all : (text : List ℕ) → kept All text ≡ text
kept_all [] = refl
kept_all (c ∷ text) = ap (λ rest. c ∷ rest) (kept_all text)

pub room_all : (text : List ℕ) → room_behind All text ≡ All
room_all [] = refl
room_all (c ∷ text) = room_all text

-- a text that isn't changed: what is shown is its bytes
shown_as_encoded : (text : List ℕ) → shown_bytes false text ≡ encode_utf8_all text
unfolding shown_bytes
shown_as_encoded [] = refl
shown_as_encoded (c ∷ text) = ap (λ bytes. encode_utf8 c ++ bytes) (shown_as_encoded text)

printable_char : (width : Option ℕ) (c : ℕ) → is_some width ≡ true → (if is_none width then 63 else c) ≡ c
printable_char None c is = absurd (true≢false (sym is))
printable_char (Some width) c is = refl

printable_as_encoded : (text : List ℕ) → is_printable text ≡ true → shown_bytes true text ≡ encode_utf8_all text
unfolding shown_bytes
printable_as_encoded [] is = refl
printable_as_encoded (c ∷ text) is =
    let (here, later) = and_parts (is_some (char_width false c)) (is_printable text) is in
    let shown : shown_char true c ≡ c = printable_char (char_width false c) c here in
    λ i. encode_utf8 (shown i) ++ printable_as_encoded text later i

-- a whole text, as it is put at once
pub shown_at_once :
    (terminal : Bool) (bytes : List ℕ) → IsUtf8 bytes → (terminal ≡ true → is_printable (chars bytes) ≡ true) →
    bytes ≡ shown_bytes terminal (kept All (chars bytes))
shown_at_once false bytes utf8 printable =
    sym (encodes-chars bytes utf8) ∙ sym (shown_as_encoded (chars bytes)) ∙ ap (shown_bytes false) (sym (kept_all (chars bytes)))
shown_at_once true bytes utf8 printable =
    sym (encodes-chars bytes utf8) ∙ sym (printable_as_encoded (chars bytes) (printable refl))
    ∙ ap (shown_bytes true) (sym (kept_all (chars bytes)))
