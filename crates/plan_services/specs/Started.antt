-- The unit that a timer starts (systemd.timer(5), `Unit=`), and what is wrong with it.
use Rattle.std.specs.Prelude.{ℕ, Bool, false, if◌then◌else◌, List, [], ◌∷◌, ◌++◌, Option, None, Some, codes}
use Rattle.std.specs.Str.{bytes_eq}
use Rattle.plan_texts.specs.WholeLines.{readable_lines, trimmed}
use Rattle.plan_timers.specs.Links.{or_path}
use Rattle.plan_timers.specs.Source.{TimerParts, files_of_timer}
use Rattle.plan_units.specs.Settings.{name_of_word, section_name, setting_of}
use Rattle.plan_parts.specs.Files.{FileBytes}
use Rattle.plan_units.specs.UnitNames.{stem}

-- ---- one line

-- whether the lines after a line are in a section `[Timer]`; names of sections are compared exactly (systemd.syntax(7))
abbrev pub inside_after : Bool → Option (List ℕ) → Bool
inside_after inside None = inside
inside_after inside (Some section) = bytes_eq section (codes "Timer")

-- a timer can't start itself (systemd 252)
abbrev pub other_than : List ℕ → Option (List ℕ) → Option (List ℕ)
other_than unit None = None
other_than unit (Some named) = if bytes_eq named unit then None else Some named

-- the unit that a setting names, as in a setting that wants it: an invalid name is ignored, such as an empty one (systemd 252)
abbrev pub named_in_setting : List ℕ → List ℕ × List ℕ → Option (List ℕ)
named_in_setting unit setting =
    if bytes_eq setting.0 (codes "Unit") then other_than unit (name_of_word unit setting.1) else None

abbrev pub named_by : List ℕ → Option (List ℕ × List ℕ) → Option (List ℕ)
named_by unit None = None
named_by unit (Some setting) = named_in_setting unit setting

-- only settings in a `[Timer]` section count (systemd.syntax(7))
abbrev pub unit_in_line : List ℕ → (inside : Bool) → List ℕ → Option (List ℕ)
unit_in_line unit inside text = if inside then named_by unit (setting_of text) else None

-- ---- all lines

-- the first line that names a unit counts (systemd 252); `inside` says whether the first line is in a `[Timer]` section
abbrev pub named_in_lines : List ℕ → (inside : Bool) → List (ℕ × List ℕ) → Option (List ℕ)
named_in_lines unit inside [] = None
named_in_lines unit inside (line ∷ more) =
    or_path (unit_in_line unit inside (trimmed line.1))
    (named_in_lines unit (inside_after inside (section_name (trimmed line.1))) more)

-- a file is read from its first section on (agenda)
abbrev pub named_in_file : List ℕ → FileBytes → Option (List ℕ)
named_in_file unit file = named_in_lines unit false (readable_lines file.bytes)

-- the first of a timer's files that names a unit counts (systemd 252)
abbrev pub named_in_files : List ℕ → List FileBytes → Option (List ℕ)
named_in_files unit [] = None
named_in_files unit (file ∷ more) = or_path (named_in_file unit file) (named_in_files unit more)

-- the service with a timer's name (systemd.timer(5), `Unit=`)
abbrev pub service_of : List ℕ → List ℕ
service_of name = stem name ++ codes ".service"

abbrev pub unit_or_service : List ℕ → Option (List ℕ) → List ℕ
unit_or_service name None = service_of name
unit_or_service name (Some unit) = unit

-- the unit that a timer starts (systemd.timer(5), `Unit=`)
abbrev pub started_unit : TimerParts → List ℕ
started_unit timer = unit_or_service timer.unit (named_in_files timer.unit (files_of_timer timer))
