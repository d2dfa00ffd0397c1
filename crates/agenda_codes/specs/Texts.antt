-- The list of all codes, which `agenda explain` prints (agenda).
use Rattle.std.specs.Prelude.{ℕ, List, ◌++◌, codes}
use Rattle.std.specs.List.{flat_map}
use Rattle.agenda_codes.specs.declared.code.Code.{Code}
use Rattle.agenda_codes.specs.Codes.{all_codes, name_of, sentence_of}

-- the line of a code: its name, a tab, and what it means in one sentence
abbrev pub code_line : Code → List ℕ
code_line code = name_of code ++ (codes "\t" ++ (sentence_of code ++ codes "\n"))

-- the lines of all codes, in the order of their names
unfoldable pub codes_text : List ℕ
codes_text = flat_map code_line all_codes
