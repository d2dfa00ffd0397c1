-- The files of a source.
use Rattle.std.specs.Prelude.{ℕ, List, map}
use Rattle.plan_parts.specs.Merging.{merged}
use Rattle.plan_parts.specs.Specifiers.{expanded}

-- the bytes of a file, and its path
pub record FileBytes : Type 0 where
  pub path : List ℕ
  pub bytes : List ℕ

-- the texts of files
abbrev pub texts_of : List FileBytes → List (List ℕ)
texts_of files = map (λ file. file.bytes) files

-- the files of a unit, with the unit's name
pub record UnitFiles : Type 0 where
  pub unit : List ℕ
  pub files : List FileBytes

-- the text of a unit: its files are merged, and the specifiers of an instance are replaced (agenda)
abbrev pub unit_text : UnitFiles → List ℕ
unit_text unit = expanded unit.unit (merged (texts_of unit.files))
