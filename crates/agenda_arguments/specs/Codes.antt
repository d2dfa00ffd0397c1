-- The text of usage for a code that doesn't exist (agenda).
use Rattle.std.specs.Prelude.{ℕ, List, ◌++◌, codes}
use Rattle.std.specs.List.{join_by}
use Rattle.agenda_codes.specs.Codes.{all_codes, name_of}

-- the text of usage for a name that no code has; its tip lists the codes
abbrev pub unknown_code : List ℕ → List ℕ
unknown_code name =
    codes "error: invalid value '" ++ (name ++ (codes "' for '[CODE]'\n\n  tip: the codes are "
    ++ (join_by name_of (codes ", ") all_codes ++ codes "\n\nFor more information, try '--help'.\n")))
