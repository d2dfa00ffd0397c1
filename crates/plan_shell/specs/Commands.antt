-- Which simple commands have no effect. Their words are compared as they are written: one with quotes or `\` is no such word.
use Rattle.std.specs.Prelude.{ℕ, Bool, true, false, not, ◌&&◌, ◌||◌, ◌==◌, nat_lt, if◌then◌else◌, List, [], ◌∷◌, ◌++◌, codes, Option, Some, None}
use Rattle.std.specs.Char.{is_ascii_alphanumeric}
use Rattle.std.specs.List.{list_all, list_any}
use Rattle.std.specs.Option.{option_and_then}
use Rattle.std.specs.Str.{byte, bytes_eq}
use Rattle.plan_texts.specs.Text.{begins_with}
use Rattle.plan_shell.specs.declared.step.Property.{Property}
use Rattle.plan_shell.specs.declared.step.Property.TheVariants as property
use Rattle.plan_shell.specs.declared.step.Step.{Step}
use Rattle.plan_shell.specs.declared.step.Step.TheVariants.{Look, Known, Effect, Not, And}
use Rattle.plan_shell.specs.declared.conditions.Expected.{Expected}
use Rattle.plan_shell.specs.declared.conditions.Expected.TheVariants.{Test, Operator, Path, Joint, Nothing}
use Rattle.plan_shell.specs.declared.commands.Utility.{Utility}
use Rattle.plan_shell.specs.declared.commands.Utility.TheVariants as utility

-- ---- words

-- a byte that a PATH may have: visible ASCII (agenda), and nothing that sh(1) expands, quotes or redirects
abbrev pub is_path_byte : ℕ → Bool
is_path_byte b = (nat_lt 32 b && nat_lt b 127) && not (list_any (λ other. b == other) (codes "$*?~[]{}\\'\"`<>"))

-- a PATH begins with a slash
unfoldable pub path_of : (word : List ℕ) → Option (List ℕ)
path_of word = if begins_with (λ b. b == byte "/") word && list_all is_path_byte word then Some word else None

-- a byte that a NAME may have
abbrev pub is_name_byte : ℕ → Bool
is_name_byte b = is_ascii_alphanumeric b || ((b == byte "_") || ((b == byte "-") || (b == byte ".")))

-- a NAME begins like no option
unfoldable pub name_of : (word : List ℕ) → Option (List ℕ)
name_of word = if begins_with (λ b. not (b == byte "-")) word && list_all is_name_byte word then Some word else None

-- a look at a path or a name; where there is none, the command isn't one of these, and may have an effect
abbrev pub looked : Property → Option (List ℕ) → Step
looked property None = Effect
looked property (Some subject) = Look property subject

-- ---- COND of test(1)

-- the word `!`
abbrev pub is_not : (word : List ℕ) → Bool
is_not word = bytes_eq word (codes "!") || bytes_eq word (codes "\\!")

-- the property that an operator tests
abbrev pub operator_of : (word : List ℕ) → Option Property
operator_of word =
    if bytes_eq word (codes "-x") then Some property.Executable else
    if bytes_eq word (codes "-e") then Some property.Exists else
    if bytes_eq word (codes "-f") then Some property.File else
    if bytes_eq word (codes "-d") then Some property.Directory else
    if bytes_eq word (codes "-s") then Some property.NotEmpty else None

-- an operator, and then its path
abbrev pub at_operator : (negated : Bool) → (word : List ℕ) → Option Expected
at_operator negated word = option_and_then (λ property. Some (Path negated property)) (operator_of word)

-- what is expected after a word: `[!] OPERATOR PATH`, joined by `-a`; `[` ends with `]`
abbrev pub expected_after : (bracket : Bool) → Expected → (word : List ℕ) → Option Expected
expected_after bracket Test word = if is_not word then Some (Operator true) else at_operator false word
expected_after bracket (Operator negated) word = at_operator negated word
expected_after bracket (Path negated property) word = option_and_then (λ path. Some Joint) (path_of word)
expected_after bracket Joint word =
    if bytes_eq word (codes "-a") then Some Test else
    if bracket && bytes_eq word (codes "]") then Some Nothing else None
expected_after bracket Nothing word = None

-- the steps of a word: a path is looked at, after what was looked at before it
abbrev pub steps_at : Expected → (word : List ℕ) → List Step
steps_at (Path true property) word = looked property (path_of word) ∷ Not ∷ And ∷ []
steps_at (Path false property) word = looked property (path_of word) ∷ And ∷ []
steps_at _ word = []

-- COND may end here
abbrev pub is_ended : (bracket : Bool) → Expected → Bool
is_ended bracket Joint = not bracket
is_ended bracket Nothing = true
is_ended bracket _ = false

-- the steps of the words of COND, after others
abbrev pub tests_from : (bracket : Bool) → Expected → List Step → (words : List (List ℕ)) → Option (List Step)
tests_from bracket expected steps [] = if is_ended bracket expected then Some steps else None
tests_from bracket expected steps (word ∷ words) =
    option_and_then (λ next. tests_from bracket next (steps ++ steps_at expected word) words) (expected_after bracket expected word)

-- the steps of COND: `true`, and each condition
abbrev pub tests : (bracket : Bool) → (words : List (List ℕ)) → Option (List Step)
tests bracket words = tests_from bracket Test (Known true ∷ []) words

-- ---- other commands without an effect

-- `true`, `:` and `false` have no arguments
abbrev pub constant : (value : Bool) → (arguments : List (List ℕ)) → Step
constant value [] = Known value
constant value (argument ∷ arguments) = Effect

abbrev pub cd : (arguments : List (List ℕ)) → Step
cd (path ∷ []) = looked property.Directory (path_of path)
cd _ = Effect

abbrev pub is_null : (word : List ℕ) → Bool
is_null word = bytes_eq word (codes "/dev/null")

abbrev pub is_to_null : (word : List ℕ) → Bool
is_to_null word = bytes_eq word (codes ">/dev/null")

abbrev pub is_to : (word : List ℕ) → Bool
is_to word = bytes_eq word (codes ">")

abbrev pub is_errors_too : (word : List ℕ) → Bool
is_errors_too word = bytes_eq word (codes "2>&1")

-- words that redirect the output to /dev/null, and the errors or not
abbrev pub is_silenced : List (List ℕ) → Bool
is_silenced (one ∷ []) = is_to_null one
is_silenced (one ∷ two ∷ []) = (is_to one && is_null two) || (is_to_null one && is_errors_too two)
is_silenced (one ∷ two ∷ three ∷ []) = is_to one && (is_null two && is_errors_too three)
is_silenced _ = false

-- `command -v NAME > /dev/null`
abbrev pub command : (arguments : List (List ℕ)) → Step
command (option ∷ name ∷ rest) =
    if bytes_eq option (codes "-v") && is_silenced rest then looked property.Command (name_of name) else Effect
command _ = Effect

-- an option of run-parts(8) that doesn't change which names are scripts (agenda)
unfoldable pub is_option : (word : List ℕ) → Bool
is_option word =
    bytes_eq word (codes "--report") || (bytes_eq word (codes "-v") || (bytes_eq word (codes "--verbose")
    || (bytes_eq word (codes "--exit-on-error") || (bytes_eq word (codes "--new-session") || bytes_eq word (codes "--random")))))

-- the last word is the path, and the others are options
abbrev pub run_from : (word : List ℕ) → (words : List (List ℕ)) → Step
run_from path [] = looked property.NoScripts (path_of path)
run_from option (word ∷ words) = if is_option option then run_from word words else Effect

-- `run-parts [-OPTION ..] PATH`
abbrev pub run_parts : (arguments : List (List ℕ)) → Step
run_parts [] = Effect
run_parts (word ∷ words) = run_from word words

-- ---- simple commands

-- the first word of a command with commands in it, other than those of the grammar
abbrev pub begins_compound : (word : List ℕ) → Bool
begins_compound word =
    bytes_eq word (codes "while") || (bytes_eq word (codes "until") || (bytes_eq word (codes "for")
    || (bytes_eq word (codes "case") || (bytes_eq word (codes "function") || (bytes_eq word (codes "[[") || bytes_eq word (codes "time"))))))

-- the first word of a command that may change how what follows is read or run
abbrev pub changes_shell : (word : List ℕ) → Bool
changes_shell word =
    bytes_eq word (codes "eval") || (bytes_eq word (codes "exec") || (bytes_eq word (codes "exit")
    || (bytes_eq word (codes "trap") || (bytes_eq word (codes "set") || (bytes_eq word (codes "alias") || bytes_eq word (codes "."))))))

-- the first word of a command that isn't read
abbrev pub is_unread : (word : List ℕ) → Bool
is_unread word = begins_compound word || changes_shell word

-- what the first word of a simple command names
abbrev pub utility_of : (word : List ℕ) → Utility
utility_of word =
    if bytes_eq word (codes "test") then utility.Test else
    if bytes_eq word (codes "[") then utility.Bracket else
    if bytes_eq word (codes "cd") then utility.Cd else
    if bytes_eq word (codes "command") then utility.Command else
    if bytes_eq word (codes "run-parts") then utility.RunParts else
    if bytes_eq word (codes "true") || bytes_eq word (codes ":") then utility.True else
    if bytes_eq word (codes "false") then utility.False else
    if is_unread word then utility.Unread else utility.Other

-- the steps of COND, or of a command with an effect
abbrev pub tests_or_effect : Option (List Step) → List Step
tests_or_effect None = Effect ∷ []
tests_or_effect (Some steps) = steps

-- the steps of a simple command, by what its first word names; nothing, if it isn't read
abbrev pub steps_by : Utility → (arguments : List (List ℕ)) → Option (List Step)
steps_by utility.Test arguments = Some (tests_or_effect (tests false arguments))
steps_by utility.Bracket arguments = Some (tests_or_effect (tests true arguments))
steps_by utility.Cd arguments = Some (cd arguments ∷ [])
steps_by utility.Command arguments = Some (command arguments ∷ [])
steps_by utility.RunParts arguments = Some (run_parts arguments ∷ [])
steps_by utility.True arguments = Some (constant true arguments ∷ [])
steps_by utility.False arguments = Some (constant false arguments ∷ [])
steps_by utility.Unread arguments = None
steps_by utility.Other arguments = Some (Effect ∷ [])

-- the steps of a simple command
abbrev pub steps_of : (words : List (List ℕ)) → Option (List Step)
steps_of [] = None
steps_of (word ∷ arguments) = steps_by (utility_of word) arguments
