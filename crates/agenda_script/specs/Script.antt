-- Scripts of steps on a mailbox: what their bytes mean (agenda).
use Rattle.std.specs.Prelude.{ℕ, ◌+◌, ◌==◌, nat_lt, if◌then◌else◌, List, [], ◌∷◌, ◌++◌, length, flat_map, codes, decimal, Option, None, Some, option_and_then, Result, Ok, Err}
use Rattle.std.specs.List.{enumerate_from}
use Rattle.std.specs.Option.{option_map}
use Rattle.std.specs.Str.{bytes_eq, is_utf8}
use Rattle.plan_mailbox.specs.declared.replies.Step.{Step}
use Rattle.plan_mailbox.specs.declared.replies.Step.TheVariants.{Send, Take, Close}
use Rattle.plan_mailbox.specs.declared.faults.NewFault.{NewFault}
use Rattle.plan_mailbox.specs.declared.faults.NewFault.TheVariants as new
use Rattle.plan_mailbox.specs.Mailbox.{Mailbox, is_size, senders_of}
use Rattle.plan_mailbox.specs.Lanes.{mailbox_of}
use Rattle.plan_texts.specs.Lines.{is_too_large, lines}
use Rattle.plan_texts.specs.Steps.{◌>>=◌, each}
use Rattle.plan_texts.specs.Text.{cut_at, decimal_number}
use Rattle.agenda_script.specs.declared.fault.ScriptCause.{ScriptCause}
use Rattle.agenda_script.specs.declared.fault.ScriptCause.TheVariants.{NoMemory, NotUtf8, TooLarge, BadLine, BadSize, TooManySteps}
use Rattle.agenda_script.specs.declared.fault.ScriptFault.{ScriptFault}
use Rattle.agenda_script.specs.declared.reader.Script.{Script}

-- a script has at most 10,000 steps
abbrev pub most_steps : ℕ
most_steps = 10_000

-- ---- what a script means

-- a new mailbox of this many senders, each with a capacity of this many messages, and the steps on it
pub record Meaning : Type 0 where
  pub senders : ℕ
  pub room : ℕ
  pub steps : List (Step (List ℕ))

-- what a part of a script means, or the first error of the script
abbrev pub ScriptReading : Type 0 → Type 0
ScriptReading A = Result A ScriptFault

-- the error of a line, from 1, or of the whole script, which is 0
abbrev pub fault_on : {A : Type 0} → ℕ → ScriptCause → ScriptReading A
fault_on line cause = Err (record { line = line; cause = cause })

-- what a line means; a line that has none of the forms of a script is BadLine
abbrev pub on_line : {A : Type 0} → ℕ → Option A → ScriptReading A
on_line number None = fault_on number BadLine
on_line number (Some meaning) = Ok meaning

-- the texts before and after the first space
abbrev pub around_space : List ℕ → Option (List ℕ × List ℕ)
around_space text = cut_at (codes " ") text

-- two numbers, if both are numbers
abbrev pub both : Option ℕ → Option ℕ → Option (ℕ × ℕ)
both (Some first) (Some second) = Some (first, second)
both first second = None

-- `SENDERS ROOM`, with one space between them
unfoldable pub sizes_of : List ℕ → Option (ℕ × ℕ)
sizes_of text = option_and_then (λ parts. both (decimal_number parts.0) (decimal_number parts.1)) (around_space text)

-- `mailbox SENDERS ROOM`
unfoldable pub mailbox_line : List ℕ → Option (ℕ × ℕ)
mailbox_line line =
    option_and_then (λ parts. if bytes_eq parts.0 (codes "mailbox") then sizes_of parts.1 else None) (around_space line)

-- a message that isn't empty, from the sender with this number
abbrev pub sending : Option ℕ → List ℕ → Option (Step (List ℕ))
sending sender text = if length text == 0 then None else option_map (λ s. Send s text) sender

-- `S TEXT`: the text is everything after the one space
unfoldable pub send_of : List ℕ → Option (Step (List ℕ))
send_of text = option_and_then (λ parts. sending (decimal_number parts.0) parts.1) (around_space text)

-- `send S TEXT` or `close S`, by the word before the first space
abbrev pub step_by_word : List ℕ → List ℕ → Option (Step (List ℕ))
step_by_word word rest =
    if bytes_eq word (codes "send") then send_of rest
    else (if bytes_eq word (codes "close") then option_map (λ s. Close s) (decimal_number rest) else None)

-- `take`, or a step of several words
unfoldable pub step_of : List ℕ → Option (Step (List ℕ))
step_of line =
    if bytes_eq line (codes "take") then Some Take
    else option_and_then (λ parts. step_by_word parts.0 parts.1) (around_space line)

-- the line with this number as a step, if there aren't too many
unfoldable pub step_on : ℕ → List ℕ → ScriptReading (Step (List ℕ))
step_on number line =
    if nat_lt (most_steps + 1) number then fault_on number TooManySteps else on_line number (step_of line)

-- the same for a line with its number
abbrev pub numbered_step : ℕ × List ℕ → ScriptReading (Step (List ℕ))
numbered_step numbered = step_on numbered.0 numbered.1

-- the steps of the lines after the first, which have the numbers from 2 on: the first invalid line decides
abbrev pub steps_reading : List (List ℕ) → ScriptReading (List (Step (List ℕ)))
steps_reading lines = each numbered_step (enumerate_from 2 lines)

-- the sizes, if a mailbox may have them
abbrev pub as_size : ℕ × ℕ → ScriptReading (ℕ × ℕ)
as_size size = if is_size size.0 size.1 then Ok size else fault_on 1 BadSize

-- the first line: the sizes of the mailbox
unfoldable pub size_reading : List ℕ → ScriptReading (ℕ × ℕ)
size_reading line = do
  size ← on_line 1 (mailbox_line line)
  as_size size

-- the lines: the first makes the mailbox, and each further one is a step
unfoldable pub lines_reading : List (List ℕ) → ScriptReading Meaning
lines_reading [] = fault_on 1 BadLine
lines_reading (first ∷ later) = do
  size ← size_reading first
  steps ← steps_reading later
  Ok (record { senders = size.0; room = size.1; steps = steps })

-- the bytes of a script: first there must not be too many, then they must be UTF-8, and then the lines are read
unfoldable pub script_reading : List ℕ → ScriptReading Meaning
script_reading bytes =
    if is_too_large bytes then fault_on 0 TooLarge
    else (if is_utf8 bytes then lines_reading (lines bytes) else fault_on 0 NotUtf8)

-- an allocation failed: an error without a line
abbrev pub memory_fault : ScriptFault
memory_fault = record { line = 0; cause = NoMemory }

-- the error of a script whose mailbox can't be made
abbrev pub fault_of_mailbox : NewFault → ScriptFault
fault_of_mailbox new.NoMemory = memory_fault
fault_of_mailbox new.BadSize = record { line = 1; cause = BadSize }

-- the sizes of a mailbox
abbrev pub sizes_in : Mailbox (List ℕ) → ℕ × ℕ
sizes_in mailbox = (senders_of mailbox, mailbox.room)

-- the mailbox of a script that was read
abbrev pub mailbox_in : Script → Mailbox (List ℕ)
mailbox_in script = mailbox_of script.mailbox

-- what a script that was read means
abbrev pub meaning_of : Script → Meaning
meaning_of script = record {
  senders = senders_of (mailbox_in script);
  room = (mailbox_in script).room;
  steps = script.steps.items;
}
