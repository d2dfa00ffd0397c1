-- The text of a file: its bytes, once they are checked.
use Rattle.std.specs.Prelude.{ℕ, if◌then◌else◌, List, Ok, Err}
use Rattle.std.specs.Str.{is_utf8}
use Rattle.plan_rules.specs.declared.line_fault.LineCause.TheVariants.{TooLarge, NotUtf8}
use Rattle.plan_texts.specs.Lines.{is_too_large}
use Rattle.plan_rules.specs.LineFaults.{TextReading, on_line}

-- the text of a file: its size is checked first, then that its bytes are UTF-8 (agenda)
abbrev pub text_reading : List ℕ → TextReading (List ℕ)
text_reading bytes =
    on_line 0 (if is_too_large bytes then Err TooLarge else (if is_utf8 bytes then Ok bytes else Err NotUtf8))
