-- The elements of a list, which have the same form in crontab(5) and in systemd.time(7): a value or a range of values,
-- and a step. The definitions have parameters for how a value is read, which mark a range has, and what an element means.
use Rattle.std.specs.Prelude.{ℕ, ◌==◌, if◌then◌else◌, List, length, codes, Option, Some, None, Result, Ok, Err, ok_or}
use Rattle.std.specs.Str.{bytes_eq}
use Rattle.plan_sets.specs.declared.item.Item.{Item}
use Rattle.plan_sets.specs.declared.item.SetFault.{SetFault}
use Rattle.plan_sets.specs.Values.{Values as SetOfValues}
use Rattle.plan_grammar.specs.declared.fault.RuleCause.TheVariants.{WrongParts, BadNumber, Values}
use Rattle.plan_grammar.specs.declared.element.Side.{Side}
use Rattle.plan_grammar.specs.declared.element.Side.TheVariants.{Star, Value, Between}
use Rattle.plan_texts.specs.Text.{cut_at, decimal_number}
use Rattle.plan_texts.specs.Steps.{◌>>=◌}
use Rattle.plan_grammar.specs.Readings.{Reading, rejected}

-- a number in a part of the text: an empty text is WrongParts, and any other text that isn't a number is BadNumber (agenda)
abbrev pub number_reading : ℕ → List ℕ → Reading ℕ
number_reading part text =
    if length text == 0 then rejected part WrongParts
    else ok_or (decimal_number text) (record { part = part; cause = BadNumber })

-- one value, or the two values around the range mark: an error in the first comes before one in the second (agenda)
abbrev pub span_by : (List ℕ → Reading ℕ) → List ℕ → Option (List ℕ × List ℕ) → Reading Side
span_by value text None = do
  one ← value text
  Ok (Value one)
span_by value text (Some ends) = do
  first ← value (ends.0)
  last ← value (ends.1)
  Ok (Between first last)

-- what comes before a step: `*`, one value, or two values with the first range mark between them (crontab(5), ranges;
-- systemd.time(7), lists and ranges)
abbrev pub side_by : (List ℕ → Reading ℕ) → List ℕ → List ℕ → Reading Side
side_by value mark text =
    if bytes_eq text (codes "*") then Ok Star else span_by value text (cut_at mark text)

-- an element, which is cut at its first `/` if it has one: what comes before the step is read first, then the step, and
-- then it is checked whether a step is allowed there (agenda)
abbrev pub cut_item_by : (List ℕ → Reading Side) → (List ℕ → Reading ℕ) → (Side → Option ℕ → Reading Item) → List ℕ → Option
    (List ℕ × List ℕ) → Reading Item
cut_item_by side step meaning text None = do
  left ← side text
  meaning left None
cut_item_by side step meaning text (Some cut) = do
  left ← side (cut.0)
  number ← step (cut.1)
  meaning left (Some number)

-- a set of values; an error of the set is the error of the part
abbrev pub set_in_part : ℕ → Result SetOfValues SetFault → Reading SetOfValues
set_in_part part (Ok values) = Ok values
set_in_part part (Err fault) = rejected part (Values fault)

-- the values of a list of elements: the forms of all elements are checked before the values (agenda)
abbrev pub values_by : ℕ → (List Item → Result SetOfValues SetFault) → Reading (List Item) → Reading SetOfValues
values_by part set forms = do
  items ← forms
  set_in_part part (set items)
