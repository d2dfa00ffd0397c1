-- The parts of a source, and the text that is read of them.
use Rattle.std.specs.Prelude.{ℕ, List, [], ◌∷◌}
use Rattle.plan_parts.specs.declared.parts.Parts.{Parts}
use Rattle.plan_parts.specs.declared.parts.Parts.TheVariants.{One, OfUnit}
use Rattle.plan_parts.specs.Files.{FileBytes, unit_text}
use Rattle.plan_parts.specs.Specifiers.{expanded}

-- the files of a source
abbrev pub files_of : Parts → List FileBytes
files_of (One file) = file ∷ []
files_of (OfUnit unit) = unit.files

-- the text that is read of a source: one file is read unchanged (agenda)
abbrev pub text_of : Parts → List ℕ
text_of (One file) = file.bytes
text_of (OfUnit unit) = unit_text unit

-- what is read of a line of a file
abbrev pub read_line : Parts → List ℕ → List ℕ
read_line (One file) line = line
read_line (OfUnit unit) line = expanded unit.unit line
