-- How the text of an agenda is read back (agenda).
use Rattle.std.specs.Prelude.{◌≡◌, ℕ, ◌+◌, ◌<◌, ◌≤◌, zero, suc, Bool, true, ◌||◌, ◌&&◌, nat_eq, nat_lt, if◌then◌else◌, List, [], ◌∷◌, codes, decimal, length, Option, None, Some, option_map, Result, Ok, Err}
use Rattle.std.specs.List.{starts_with}
use Rattle.std.specs.Str.{bytes_eq, is_utf8}
use Rattle.plan_texts.specs.Text.{cut_at}
use Rattle.plan_next.specs.Span.{Bounds}
use Rattle.plan_collect.specs.Limits.{most_entries}
use Rattle.plan_baseline.specs.declared.fault.BaselineFault.{BaselineFault}
use Rattle.plan_baseline.specs.declared.fault.BaselineFault.TheVariants.{BadLine, NoMemory}
use Rattle.plan_baseline.specs.declared.lines.Header.{Header}
use Rattle.plan_baseline.specs.Line.{Line, Listing}
use Rattle.plan_baseline.specs.Times.{IsTimeOf}

-- ---- one line

-- the first line of a text and what follows its newline, if that line is UTF-8
abbrev pub utf8_line : Option (List ℕ × List ℕ) → Option (List ℕ × List ℕ)
utf8_line None = None
utf8_line (Some (line, rest)) = if is_utf8 line then Some (line, rest) else None

-- the first line of a text, and what follows its newline; None if it has no newline, or isn't UTF-8 (agenda)
abbrev pub first_line : List ℕ → Option (List ℕ × List ℕ)
first_line text = utf8_line (cut_at (codes "\n") text)

-- the first column, and what follows it, cut at the next tab
abbrev pub second_column : Option (List ℕ × List ℕ) → Option (List ℕ × (List ℕ × List ℕ))
second_column None = None
second_column (Some (first, rest)) = option_map (λ parts. (first, parts)) (cut_at (codes "\t") rest)

-- the first and the second column of a line, and what follows them; there are tabs between them (agenda)
abbrev pub columns : List ℕ → Option (List ℕ × (List ℕ × List ℕ))
columns line = second_column (cut_at (codes "\t") line)

-- the first column of a line is the text of a second, and this follows the tab after it
abbrev pub BeginsWithTime : (line : List ℕ) → (second : ℕ) → (rest : List ℕ) → Type 0
BeginsWithTime line second rest = (time : List ℕ) × (cut_at (codes "\t") line ≡ Some (time, rest)) × IsTimeOf time second

-- ---- the header

-- what a header says: the span of the agenda, and the number of its lines
pub record Head : Type 0 where
  pub span : Bounds
  pub count : ℕ

-- what the header of a text says
abbrev pub head_of : Header → Head
head_of header = record { span = header.span; count = header.count }

-- the version of the text, and a space and the name of a zone if one is given (agenda)
abbrev pub is_mark : List ℕ → Bool
is_mark mark = bytes_eq mark (codes "agenda 2") || (starts_with nat_eq mark (codes "agenda 2 ") && nat_lt 9 (length mark))

-- the texts are the times of a span (agenda)
abbrev pub AreBounds : (since upto : List ℕ) → Bounds → Type 0
AreBounds since upto span = IsTimeOf since span.since × IsTimeOf upto span.upto × (span.since ≤ span.upto)

-- the text is a number of lines, in decimal, and not above the maximum of entries (agenda)
abbrev pub IsCount : (text : List ℕ) → (count : ℕ) → Type 0
IsCount text count = (text ≡ decimal count) × (count ≤ most_entries)

-- the line is a header: the mark, the start of the span, its end, and the number of lines, with tabs between them (agenda)
pub record IsHeader (line : List ℕ) (head : Head) : Type 0 where
  pub mark : List ℕ
  pub since : List ℕ
  pub rest : List ℕ
  pub upto : List ℕ
  pub count : List ℕ
  pub columns_are : columns line ≡ Some (mark, (since, rest))
  pub rest_is : cut_at (codes "\t") rest ≡ Some (upto, count)
  pub mark_is : is_mark mark ≡ true
  pub count_is : IsCount count head.count
  pub span_is : AreBounds since upto head.span

-- the text begins with a header, and this follows it
abbrev pub BeginsWithHeader : (text : List ℕ) → Head → (rest : List ℕ) → Type 0
BeginsWithHeader text head rest = (line : List ℕ) × (first_line text ≡ Some (line, rest)) × IsHeader line head

-- what is read of the header, and what follows it; nothing if the text doesn't begin with a header
abbrev pub IsHeadRead : (text : List ℕ) → Option (Head × List ℕ) → Type 0
IsHeadRead text None = (head : Head) (rest : List ℕ) → ¬ BeginsWithHeader text head rest
IsHeadRead text (Some (head, rest)) = BeginsWithHeader text head rest

-- ---- the lines

-- the line is that of a start: its second, from one on and before another, the name of the job, and what it runs, with tabs
-- between them (agenda)
pub record IsLine (from upto : ℕ) (text : List ℕ) (line : Line) : Type 0 where
  pub time : List ℕ
  pub columns_are : columns text ≡ Some (time, (line.job, line.runs))
  pub time_is : IsTimeOf time line.second
  pub after : from ≤ line.second
  pub before : line.second < upto

-- the text begins with the line of such a start, and this follows it
abbrev pub BeginsWithLine : (from upto : ℕ) → (text : List ℕ) → Line → (rest : List ℕ) → Type 0
BeginsWithLine from upto text line rest = (bytes : List ℕ) × (first_line text ≡ Some (bytes, rest)) × IsLine from upto bytes line

-- what is read of the first line, and what follows it; nothing if the text doesn't begin with the line of such a start
abbrev pub IsLineRead : (from upto : ℕ) → (text : List ℕ) → Option (Line × List ℕ) → Type 0
IsLineRead from upto text None = (line : Line) (rest : List ℕ) → ¬ BeginsWithLine from upto text line rest
IsLineRead from upto text (Some (line, rest)) = BeginsWithLine from upto text line rest

-- ---- all lines

-- lines are read, or the number of the first wrong one is told
abbrev pub Lines : Type 0
Lines = Result (List Line) ℕ

-- the same with one more line before them
abbrev pub after_line : Line → Lines → Lines
after_line line (Ok lines) = Ok (line ∷ lines)
after_line line (Err number) = Err number

-- no lines are left: the text has to be at its end (agenda)
abbrev pub at_end : (number : ℕ) → (text : List ℕ) → Lines
at_end number [] = Ok []
at_end number (b ∷ more) = Err number

-- after a first line, or the lack of one: the later lines are read, or this number is told (agenda)
abbrev pub GoesOn : (IsRead : (from : ℕ) → (text : List ℕ) → Lines → Type 0) → (number : ℕ) → Option (Line × List ℕ) → Lines → Type 0
GoesOn IsRead number None read = read ≡ Err number
GoesOn IsRead number (Some (line, rest)) read = (later : Lines) × IsRead line.second rest later × (read ≡ after_line line later)

-- so many lines are read of a text, in the order of their seconds, from one on; the first of them has this number (agenda)
unfoldable pub AreRead : (left : ℕ) → (number upto from : ℕ) → (text : List ℕ) → Lines → Type 0
AreRead zero number upto from text read = read ≡ at_end number text
AreRead (suc left) number upto from text read =
    (next : Option (Line × List ℕ)) × IsLineRead from upto text next × GoesOn (AreRead left (number + 1) upto) number next read

-- the lines after a header are read, of which the first is line 2 (agenda)
abbrev pub AreReadAfter : Head → (text : List ℕ) → Lines → Type 0
AreReadAfter head text read = AreRead head.count 2 head.span.upto head.span.since text read

-- ---- the whole text

-- an agenda is read, or the number of the first wrong line is told
abbrev pub Reading : Type 0
Reading = Result Listing ℕ

-- the header and the lines of an agenda, if those are right
abbrev pub after_head : Head → Lines → Reading
after_head head (Ok lines) = Ok (record { span = head.span; lines = lines })
after_head head (Err number) = Err number

-- after the header, or the lack of one: as many lines are read as it says (agenda)
abbrev pub GoesOnWithLines : Option (Head × List ℕ) → Reading → Type 0
GoesOnWithLines None reading = reading ≡ Err 1
GoesOnWithLines (Some (head, rest)) reading =
    (lines : Lines) × AreReadAfter head rest lines × (reading ≡ after_head head lines)

-- a text is read as an agenda, or its first wrong line has this number
abbrev pub IsReading : (text : List ℕ) → Reading → Type 0
IsReading text reading = (head : Option (Head × List ℕ)) × IsHeadRead text head × GoesOnWithLines head reading

-- the error of a text: memory aside, the number of its first wrong line
abbrev pub IsFaultOf : (IsRead : ℕ → Type 0) → BaselineFault → Type 0
IsFaultOf IsRead NoMemory = Unit {0}
IsFaultOf IsRead (BadLine number) = IsRead number
