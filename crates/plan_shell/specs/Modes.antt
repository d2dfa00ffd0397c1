-- Where words and operators begin and end in the text of a command (sh(1), Lexical Structure).
use Rattle.std.specs.Prelude.{ℕ, Bool, true, false, ◌||◌, ◌==◌, if◌then◌else◌, Option, Some, None}
use Rattle.std.specs.Str.{byte}
use Rattle.plan_shell.specs.declared.modes.Mode.{Mode}
use Rattle.plan_shell.specs.declared.modes.Mode.TheVariants.{Between, Word, Dollar, Less, Greater, Escaped, Single, Double, DoubleDollar, Ampersand, Bar, Comment}
use Rattle.plan_shell.specs.declared.modes.Action.{Action}
use Rattle.plan_shell.specs.declared.modes.Action.TheVariants.{Skip, Begin, Extend}

abbrev pub is_blank : ℕ → Bool
is_blank b = (b == byte " ") || (b == byte "\t")

-- an operator that is one byte and begins no longer one (`;;` is two, which no command is read with)
abbrev pub is_mark : ℕ → Bool
is_mark b = (b == byte ";") || ((b == byte "(") || (b == byte ")"))

-- what comes before the next byte after a byte of a word
abbrev pub opened : ℕ → Mode
opened b =
    if b == byte "\\" then Escaped else
    if b == byte "'" then Single else
    if b == byte "\"" then Double else
    if b == byte "$" then Dollar else
    if b == byte "<" then Less else
    if b == byte ">" then Greater else Word

-- a byte outside quotes. Blanks and operators end a word; a backquote isn't read. `word` is what a byte of a word does
abbrev pub unquoted : (word : Action) → ℕ → Option (Mode × Action)
unquoted word b =
    if is_blank b then Some (Between, Skip) else
    if is_mark b then Some (Between, Begin) else
    if b == byte "&" then Some (Ampersand, Begin) else
    if b == byte "|" then Some (Bar, Begin) else
    if b == byte "`" then None else Some (opened b, word)

-- a byte in `".."`: a backslash and a backquote aren't read
abbrev pub quoted : ℕ → Option (Mode × Action)
quoted b =
    if b == byte "\"" then Some (Word, Extend) else
    if b == byte "$" then Some (DoubleDollar, Extend) else
    if (b == byte "\\") || (b == byte "`") then None else Some (Double, Extend)

-- a byte where a word may begin: `#` begins a comment
abbrev pub beginning : ℕ → Option (Mode × Action)
beginning b = if b == byte "#" then Some (Comment, Skip) else unquoted Begin b

-- what comes before the next byte, and what a byte does; nothing, if the text isn't read. `$(` outside `".."` ends a word, and
-- what no operator may follow isn't read
abbrev pub after_byte : Mode → ℕ → Option (Mode × Action)
after_byte Between b = beginning b
after_byte Word b = unquoted Extend b
-- `${` isn't read, for what it holds may have blanks and quotes of its own; `$'` is not of sh(1) (agenda)
after_byte Dollar b = if (b == byte "{") || (b == byte "'") then None else unquoted Extend b
-- `<<` and `<>` aren't read; `<&` and `>&` are no `&`
after_byte Less b =
    if (b == byte "<") || (b == byte ">") then None else
    if b == byte "&" then Some (Word, Extend) else unquoted Extend b
-- `>|` isn't read
after_byte Greater b =
    if b == byte "|" then None else
    if b == byte "&" then Some (Word, Extend) else unquoted Extend b
after_byte Escaped b = Some (Word, Extend)
after_byte Single b = if b == byte "'" then Some (Word, Extend) else Some (Single, Extend)
after_byte Double b = quoted b
-- `$(` and `${` in `".."` aren't read
after_byte DoubleDollar b = if (b == byte "(") || (b == byte "{") then None else quoted b
-- `&` alone isn't read
after_byte Ampersand b = if b == byte "&" then Some (Between, Extend) else None
after_byte Bar b = if b == byte "|" then Some (Between, Extend) else beginning b
after_byte Comment b = Some (Comment, Skip)

-- a text may end here: quotes are closed, and `&` is not alone
abbrev pub may_end : Mode → Bool
may_end Escaped = false
may_end Single = false
may_end Double = false
may_end DoubleDollar = false
may_end Ampersand = false
may_end _ = true
