-- The text of the next starts of one rule (agenda).
use Rattle.std.specs.Prelude.{ℕ, ◌+◌, nat_lt, if◌then◌else◌, List, [], ◌++◌, length, take, codes, Some}
use Rattle.std.specs.List.{flat_map}
use Rattle.plan_sets.specs.Limits.{end_second}
use Rattle.plan_match.specs.declared.rule.Rule.{Rule}
use Rattle.plan_next.specs.Starts.{starts}
use Rattle.plan_write.specs.TimeFields.{time_members, time_text}
use Rattle.plan_write.specs.declared.formats.Format.{Format}
use Rattle.plan_write.specs.declared.time_fields.TimeField.TheVariants.{Start}

-- the line of a timestamp
abbrev pub moment_line : Format → ℕ → List ℕ
moment_line format n =
    if format.json then time_members format.local Start (Some n) ++ codes "}\n" else time_text format.local n ++ codes "\n"

-- the line after the last start of a rule, which JSON doesn't have
abbrev pub none_line : Format → List ℕ
none_line format = if format.json then [] else codes "none\n"

-- one line for each timestamp, then `none` if there are fewer than requested
unfoldable pub starts_text : Format → ℕ → List ℕ → List ℕ
starts_text format count moments =
    flat_map (moment_line format) moments ++ (if nat_lt (length moments) count then none_line format else [])

-- the text of next starts: the first `count` starts of the rule after a time, then `none` if there are fewer
abbrev pub next_text : Format → Rule → (after count : ℕ) → List ℕ
next_text format rule after count = starts_text format count (take count (starts rule (after + 1) end_second))
