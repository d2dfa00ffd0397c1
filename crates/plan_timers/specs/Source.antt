-- What contracts say of a timer that is a source.
use Rattle.std.specs.Prelude.{ℕ, if◌then◌else◌, List, [], ◌∷◌}
use Rattle.plan_parts.specs.declared.parts.Parts.{Parts}
use Rattle.plan_parts.specs.declared.parts.Parts.TheVariants.{OfUnit, One}
use Rattle.plan_parts.specs.Files.{FileBytes}
use Rattle.plan_timers.specs.Names.{has_at}

-- the name of the timer, that of its job, its file, and its drop-ins in the order in which they are merged
pub record TimerParts : Type 0 where
  pub unit : List ℕ
  pub name : List ℕ
  pub file : FileBytes
  pub drop_ins : List FileBytes

-- the files of a timer, in the order in which they are merged
abbrev pub files_of_timer : TimerParts → List FileBytes
files_of_timer timer = timer.file ∷ timer.drop_ins

-- the files of a unit with a name
abbrev pub parts_of_unit : List ℕ → List FileBytes → Parts
parts_of_unit unit files = OfUnit (record { unit = unit; files = files })

abbrev pub parts_by : (timer : TimerParts) → List FileBytes → Parts
parts_by timer [] =
    if has_at timer.unit then parts_of_unit timer.unit (files_of_timer timer) else One timer.file
parts_by timer (drop_in ∷ more) = parts_of_unit timer.unit (files_of_timer timer)

-- only a timer that is no instance and has no drop-ins is read as its file is: of the others the files are merged, and the
-- specifiers of an instance are replaced (systemd.unit(5))
abbrev pub parts_of_timer : TimerParts → Parts
parts_of_timer timer = parts_by timer timer.drop_ins
