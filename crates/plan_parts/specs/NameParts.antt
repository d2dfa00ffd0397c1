-- The parts of a unit's name: PREFIX.TYPE, PREFIX@.TYPE of a template, PREFIX@INSTANCE.TYPE of an instance (systemd.unit(5)).
use Rattle.std.specs.Prelude.{ℕ, ◌+◌, ◌-◌, not, ◌==◌, nat_lt, if◌then◌else◌, List, length, take, drop, slice_range, Option, None, Some}
use Rattle.std.specs.List.{prefix_len, suffix_len}
use Rattle.std.specs.Str.{byte}

-- where the type starts: at the last `.`
abbrev pub type_start : List ℕ → ℕ
type_start name = length name - suffix_len (λ b. not (b == byte ".")) name - 1

-- the parts of the name of a template or an instance: PREFIX, INSTANCE, which is empty for a template, and TYPE with its `.`.
-- The first `@` counts, and the last `.`
abbrev pub parts_of : List ℕ → Option (List ℕ × List ℕ × List ℕ)
parts_of name =
    let at = prefix_len (λ b. not (b == byte "@")) name in
    let end = type_start name in
    if nat_lt at end then Some (take at name, slice_range name (at + 1) end, drop end name) else None
