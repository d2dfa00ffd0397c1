-- The hint of a usage error, if a question about a machine expects a time.
use Rattle.std.specs.Prelude.{ℕ, Bool, not, ◌&&◌, nat_eq, if◌then◌else◌, List, ◌++◌, Option, Some, None, codes, option_and_then, slice_get}
use Rattle.std.specs.List.{starts_with}
use Rattle.std.specs.Str.{bytes_eq}
use Rattle.plan_texts.specs.Text.{cut_at}

-- the options of a question about a machine that give a time, as its hint names them; None if it expects no time (agenda)
abbrev pub options_of : (question : List ℕ) → Option (List ℕ)
options_of question =
    if bytes_eq question (codes "plan") then Some (codes "--since or --until")
    else (if bytes_eq question (codes "quiet") then Some (codes "--since or --until")
    else (if bytes_eq question (codes "downtime") then Some (codes "--since or --until")
    else (if bytes_eq question (codes "clear") then Some (codes "--since or --until")
    else (if bytes_eq question (codes "week") then Some (codes "--since or --until")
    else (if bytes_eq question (codes "upcoming") then Some (codes "--after")
    else (if bytes_eq question (codes "scripts") then Some (codes "--after")
    else (if bytes_eq question (codes "next") then Some (codes "--after") else None)))))))

-- the same for the arguments of `agenda machine`, of which the first is `machine` and the second a question (agenda)
abbrev pub time_options : List (List ℕ) → Option (List ℕ)
time_options words = option_and_then options_of (slice_get words 1)

-- how clap's text begins if an argument is unexpected
abbrev pub unexpected : List ℕ
unexpected = codes "error: unexpected argument '"

-- how it begins if that argument is an option
abbrev pub unexpected_option : List ℕ
unexpected_option = codes "error: unexpected argument '-"

-- whether a text says that an argument is unexpected that isn't an option (agenda)
abbrev pub says_word : List ℕ → Bool
says_word said = starts_with nat_eq said unexpected && not (starts_with nat_eq said unexpected_option)

-- how the line with that argument ends
abbrev pub word_end : List ℕ
word_end = codes "' found\n"

-- a text with the hint between two parts; without the parts, the text as it is (agenda)
abbrev pub hint_between : (options : List ℕ) → (said : List ℕ) → Option (List ℕ × List ℕ) → List ℕ
hint_between options said None = said
hint_between options said (Some parts) = parts.0 ++ (codes "' (for a time, use " ++ (options ++ (codes ")\n" ++ parts.1)))

-- the text of a usage error with the hint: instead of ` found`, after the argument (agenda)
abbrev pub hinted : Option (List ℕ) → (said : List ℕ) → List ℕ
hinted None said = said
hinted (Some options) said = if says_word said then hint_between options said (cut_at word_end said) else said
