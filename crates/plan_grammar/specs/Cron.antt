-- The meaning of a cron text (crontab(5)): a rule, or the first error with its part.
use Rattle.std.specs.Prelude.{ℕ, ◌+◌, Bool, not, ◌&&◌, ◌||◌, ◌==◌, if◌then◌else◌, List, [], ◌∷◌, length, find, position, codes, Option, Some, None, Ok, ok_or}
use Rattle.std.specs.Char.{is_ascii_alphabetic}
use Rattle.std.specs.Option.{option_map}
use Rattle.std.specs.Str.{byte, bytes_eq, str_eq_ignore_ascii_case}
use Rattle.plan_sets.specs.declared.item.Item.{Item}
use Rattle.plan_sets.specs.declared.item.Item.TheVariants.{One, Range}
use Rattle.plan_sets.specs.Values.{Values as SetOfValues, has_value, values_where}
use Rattle.plan_sets.specs.Items.{set_reading}
use Rattle.plan_grammar.specs.declared.fault.RuleCause.TheVariants.{WrongParts, BadNumber, BadName, UnknownWord}
use Rattle.plan_grammar.specs.declared.field.Field.{Field}
use Rattle.plan_grammar.specs.declared.field.Field.TheVariants.{Minute, Hour, MonthDay, Month, WeekDay}
use Rattle.plan_grammar.specs.declared.element.Side.{Side}
use Rattle.plan_grammar.specs.declared.element.Side.TheVariants.{Star, Value, Between}
use Rattle.plan_match.specs.declared.rule.Rule.{Rule}
use Rattle.plan_match.specs.declared.rule.Rule.TheVariants.{Cron, Never}
use Rattle.plan_texts.specs.Text.{pieces, begins_with, cut_at, decimal_number}
use Rattle.plan_texts.specs.Lines.{cut_word}
use Rattle.plan_texts.specs.WholeLines.{trimmed}
use Rattle.plan_texts.specs.Steps.{◌>>=◌, each}
use Rattle.plan_grammar.specs.Readings.{Reading, rejected}
use Rattle.plan_grammar.specs.Elements.{number_reading, side_by, cut_item_by, values_by}

-- the place of a field in the text, from 1 (crontab(5), fields)
abbrev pub part_of : Field → ℕ
part_of Minute = 1
part_of Hour = 2
part_of MonthDay = 3
part_of Month = 4
part_of WeekDay = 5

-- the minimum value of a field (crontab(5), fields)
abbrev pub lowest : Field → ℕ
lowest Minute = 0
lowest Hour = 0
lowest MonthDay = 1
lowest Month = 1
lowest WeekDay = 0

-- the maximum value of a field; day of week 7 is Sunday too (crontab(5), fields)
abbrev pub highest : Field → ℕ
highest Minute = 59
highest Hour = 23
highest MonthDay = 31
highest Month = 12
highest WeekDay = 7

-- the names of a field's values, in order from its minimum (crontab(5), names)
abbrev pub names_of : Field → List (List ℕ)
names_of Month =
    codes "jan" ∷ codes "feb" ∷ codes "mar" ∷ codes "apr" ∷ codes "may" ∷ codes "jun" ∷ codes "jul" ∷ codes "aug"
    ∷ codes "sep" ∷ codes "oct" ∷ codes "nov" ∷ codes "dec" ∷ []
names_of WeekDay =
    codes "sun" ∷ codes "mon" ∷ codes "tue" ∷ codes "wed" ∷ codes "thu" ∷ codes "fri" ∷ codes "sat" ∷ []
names_of other = []

-- the value of a name, in any case of its letters (crontab(5), names)
abbrev pub named_value : Field → List ℕ → Option ℕ
named_value field name =
    option_map (λ place. lowest field + place) (position (str_eq_ignore_ascii_case name) (names_of field))

-- a value: a name if it begins with a letter, else a number (crontab(5), names; which error it is: (agenda))
unfoldable pub value_reading : Field → List ℕ → Reading ℕ
value_reading field text =
    if length text == 0 then rejected (part_of field) WrongParts
    else (if begins_with is_ascii_alphabetic text
    then ok_or (named_value field text) (record { part = part_of field; cause = BadName })
    else ok_or (decimal_number text) (record { part = part_of field; cause = BadNumber }))

-- a step, the number after `/` (crontab(5), steps)
unfoldable pub step_reading : Field → List ℕ → Reading ℕ
step_reading field text = number_reading (part_of field) text

-- what comes before a step: `*`, one value, or two values with the first `-` between them (crontab(5), ranges)
unfoldable pub side_reading : Field → List ℕ → Reading Side
side_reading field text = side_by (value_reading field) (codes "-") text

-- the item of an element, from what comes before its step and from the step, if it has one (crontab(5), ranges and
-- steps); a step after one value is rejected (agenda)
abbrev pub item_of : Field → Side → Option ℕ → Reading Item
item_of field Star None = Ok (Range (lowest field) (highest field) 1)
item_of field Star (Some step) = Ok (Range (lowest field) (highest field) step)
item_of field (Value value) None = Ok (One value)
item_of field (Value value) (Some step) = rejected (part_of field) WrongParts
item_of field (Between first last) None = Ok (Range first last 1)
item_of field (Between first last) (Some step) = Ok (Range first last step)

-- an element of a field (crontab(5), ranges and steps)
unfoldable pub item_reading : Field → List ℕ → Reading Item
item_reading field text =
    cut_item_by (side_reading field) (step_reading field) (item_of field) text (cut_at (codes "/") text)

-- the items of a field: its elements are separated by commas (crontab(5), lists)
unfoldable pub items_reading : Field → List ℕ → Reading (List Item)
items_reading field text = each (item_reading field) (pieces (byte ",") text)

-- the values of a field (crontab(5), fields)
unfoldable pub field_reading : Field → List ℕ → Reading SetOfValues
field_reading field text =
    values_by (part_of field) (λ items. set_reading items (lowest field) (highest field)) (items_reading field text)

-- whether a day of the week, from 0 for Sunday, is among the written days, in which 7 is Sunday too (crontab(5), fields)
abbrev pub has_week_day : SetOfValues → ℕ → Bool
has_week_day written day = has_value written day || ((day == 0) && has_value written 7)

-- the days of the week, from 0 for Sunday to 6 (crontab(5), fields)
unfoldable pub week_days_of : SetOfValues → SetOfValues
week_days_of written = values_where 0 7 (has_week_day written)

-- a day field is restricted if its first character isn't `*` (crontab(5), the note on the day of a command's execution)
abbrev pub is_restricted : List ℕ → Bool
is_restricted text = not (begins_with (λ b. b == byte "*") text)

-- five fields, read from left to right; any other number of fields is rejected (crontab(5), fields)
unfoldable pub five_fields : List (List ℕ) → Reading Rule
five_fields (minute ∷ hour ∷ month_day ∷ month ∷ week_day ∷ []) = do
  minutes ← field_reading Minute minute
  hours ← field_reading Hour hour
  month_days ← field_reading MonthDay month_day
  months ← field_reading Month month
  week_days ← field_reading WeekDay week_day
  Ok
      (Cron
      (record {
        minutes = minutes;
        hours = hours;
        month_days = month_days;
        months = months;
        week_days = week_days_of week_days;
        month_days_restricted = is_restricted month_day;
        week_days_restricted = is_restricted week_day;
        is_wildcard = not (is_restricted minute && is_restricted hour);
        clock = [];
      }))
five_fields other = rejected 0 WrongParts

-- the next word of a text and what follows it; if there is none, the text has too few fields (crontab(5), fields)
abbrev pub next_field : List ℕ → Reading (List ℕ × List ℕ)
next_field text = ok_or (cut_word text) (record { part = 0; cause = WrongParts })

-- the first five fields of a text and what follows them; all five must be present before the first is read (agenda)
unfoldable pub fields_in_front : List ℕ → Reading (List (List ℕ) × List ℕ)
fields_in_front text = do
  minute ← next_field text
  hour ← next_field (minute.1)
  month_day ← next_field (hour.1)
  month ← next_field (month_day.1)
  week_day ← next_field (month.1)
  Ok (minute.0 ∷ hour.0 ∷ month_day.0 ∷ month.0 ∷ week_day.0 ∷ [], week_day.1)

-- a text of five fields; if anything follows them, it is rejected before the first is read (agenda)
abbrev pub fields_alone : List ℕ → Reading Rule
fields_alone text = do
  front ← fields_in_front text
  if length (front.1) == 0 then five_fields (front.0) else rejected 0 WrongParts

-- the words that begin with `@`, each with the five fields that it abbreviates (crontab(5), extensions); `@reboot` has no fields
abbrev pub at_words : List (List ℕ × Option (List ℕ))
at_words =
    (codes "@yearly", Some (codes "0 0 1 1 *"))
    ∷ (codes "@annually", Some (codes "0 0 1 1 *"))
    ∷ (codes "@monthly", Some (codes "0 0 1 * *"))
    ∷ (codes "@weekly", Some (codes "0 0 * * 0"))
    ∷ (codes "@daily", Some (codes "0 0 * * *"))
    ∷ (codes "@midnight", Some (codes "0 0 * * *"))
    ∷ (codes "@hourly", Some (codes "0 * * * *"))
    ∷ (codes "@reboot", None)
    ∷ []

-- what a word that begins with `@` abbreviates; None if it isn't in the table; it must be in lower case, as the table is (agenda)
abbrev pub at_word : List ℕ → Option (Option (List ℕ))
at_word word = option_map (λ known. known.1) (find (λ known. bytes_eq known.0 word) at_words)

-- the rule of a word that was looked up; if it has no fields, its rule never starts a job (agenda)
abbrev pub found_reading : Option (Option (List ℕ)) → Reading Rule
found_reading None = rejected 0 UnknownWord
found_reading (Some None) = Ok Never
found_reading (Some (Some fields)) = fields_alone fields

-- the rule of a word that begins with `@` (crontab(5), extensions)
unfoldable pub at_reading : List ℕ → Reading Rule
at_reading word = found_reading (at_word word)

-- the rule at the start of a text without leading blanks, and what follows it (crontab(5))
unfoldable pub rule_in_front : List ℕ → Reading (Rule × List ℕ)
rule_in_front text =
    if begins_with (λ b. b == byte "@") text then (do
      word ← next_field text
      rule ← at_reading (word.0)
      Ok (rule, word.1))
    else (do
      front ← fields_in_front text
      rule ← five_fields (front.0)
      Ok (rule, front.1))

-- the rule of a text without blanks around it: a word of the table, or five fields (crontab(5))
unfoldable pub rule_reading : List ℕ → Reading Rule
rule_reading text = if begins_with (λ b. b == byte "@") text then at_reading text else fields_alone text

-- the meaning of a cron text; blanks around it are ignored (crontab(5), fields)
abbrev pub cron_reading : List ℕ → Reading Rule
cron_reading text = rule_reading (trimmed text)
