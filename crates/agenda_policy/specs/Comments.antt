-- What the comments of a source allow (agenda).
use Rattle.std.specs.Prelude.{◌≡◌, ℕ, ◌-◌, Bool, false, ◌&&◌, ◌||◌, ◌==◌, if◌then◌else◌, List, [], ◌∷◌, ◌++◌, length, take, drop, codes}
use Rattle.std.specs.List.{filter_map, flat_map, prefix_len, suffix_len}
use Rattle.std.specs.Str.{byte, bytes_eq}
use Rattle.plan_texts.specs.Text.{begins_with, pieces, words}
use Rattle.plan_texts.specs.WholeLines.{line_text}
use Rattle.plan_rules.specs.declared.SourceKind.{SourceKind}
use Rattle.plan_rules.specs.declared.SourceKind.TheVariants.{Timer}
use Rattle.plan_check.specs.declared.Warning.{Warning}
use Rattle.agenda_codes.specs.declared.Code.{Code}
use Rattle.agenda_codes.specs.Codes.{code_named}
use Rattle.agenda_sources.specs.declared.Source.{Source}
use Rattle.agenda_policy.specs.Policy.{has_warning}

-- ---- comments

-- the bytes that begin a comment: `#` in a crontab (crontab(5)); `#` and `;` in a timer (systemd.syntax(7))
abbrev pub begins_comment : SourceKind → ℕ → Bool
begins_comment Timer b = (b == byte "#") || (b == byte ";")
begins_comment other b = b == byte "#"

-- whether a line is a comment: blanks before it, and one carriage return at its end, don't count
abbrev pub is_comment : SourceKind → List ℕ → Bool
is_comment kind line = begins_with (begins_comment kind) (line_text line)

-- whether a line is a comment, or blank
abbrev pub is_comment_or_blank : SourceKind → List ℕ → Bool
is_comment_or_blank kind line = (length (line_text line) == 0) || is_comment kind line

-- ---- the codes that comments allow

-- the codes that the words of a comment name: `agenda: allow CODE ..`; upper and lower case of a code are the same, and a word
-- that no code has is ignored
abbrev pub codes_in_words : List (List ℕ) → List Code
codes_in_words (first ∷ second ∷ names) =
    if bytes_eq first (codes "agenda:") && bytes_eq second (codes "allow") then filter_map code_named names else []
codes_in_words other = []

-- the codes that a comment names, by its words after the first byte
abbrev pub codes_in_comment : List ℕ → List Code
codes_in_comment line = codes_in_words (words (drop 1 (line_text line)))

-- the codes that comments name
abbrev pub codes_in_lines : List (List ℕ) → List Code
codes_in_lines lines = flat_map codes_in_comment lines

-- ---- the comments that hold

-- the head of a file: the comments and blank lines before anything else
abbrev pub head_of : SourceKind → List (List ℕ) → List (List ℕ)
head_of kind lines = take (prefix_len (is_comment_or_blank kind) lines) lines

-- the comments that end lines
abbrev pub last_comments : SourceKind → List (List ℕ) → List (List ℕ)
last_comments kind lines = drop (length lines - suffix_len (is_comment kind) lines) lines

-- the comments directly above a line with a number, from 1: no other line, blank or not, is between. Line 0, the whole file, has none
abbrev pub comments_above : SourceKind → List (List ℕ) → (number : ℕ) → List (List ℕ)
comments_above kind lines number = last_comments kind (take (number - 1) lines)

-- the lines of a source, with its kind
pub record SourceLines : Type 0 where
  pub kind : SourceKind
  pub lines : List (List ℕ)

abbrev pub lines_of : Source → SourceLines
lines_of source = record { kind = source.kind; lines = pieces (byte "\n") source.bytes }

-- whether comments allow a warning on a line: those at the head of the file, or those directly above the line
abbrev pub is_allowed_on : SourceLines → (number : ℕ) → Warning → Bool
is_allowed_on source number warning =
    has_warning (codes_in_lines (head_of source.kind source.lines)) warning
    || has_warning (codes_in_lines (comments_above source.kind source.lines number)) warning

-- ---- lists of codes

-- two lists of codes have those of the same warnings
abbrev pub AreSame : List Code → List Code → Type 0
AreSame one other = (warning : Warning) → has_warning one warning ≡ has_warning other warning
