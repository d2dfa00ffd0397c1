-- The text of a timestamp, and what is wrong with any other text.
use Rattle.std.specs.Prelude.{◌≡◌, ℕ, ◌+◌, ◌/◌, ◌%◌, ◌<◌, List, [], ◌∷◌, ◌++◌, codes, ℤ, pos, ◌<ℤ◌, ◌⊎◌}
use Rattle.plan_sets.specs.declared.civil.Civil.{Civil}
use Rattle.plan_sets.specs.Limits.{end_second}
use Rattle.plan_sets.specs.declared.moment.Fields.{Fields}
use Rattle.plan_sets.specs.declared.moment.MomentFault.{MomentFault}
use Rattle.plan_sets.specs.declared.moment.MomentFault.TheVariants.{BadForm, NoSuchDate, OutOfYears}
use Rattle.plan_sets.specs.Civil.{civil_fields, second_number, IsDateTime}

-- a number below 100 as two decimal digits
abbrev pub two_digits : ℕ → List ℕ
two_digits n = (48 + n / 10) ∷ (48 + n % 10) ∷ []

-- a number below 10,000 as four decimal digits
abbrev pub four_digits : ℕ → List ℕ
four_digits n = two_digits (n / 100) ++ two_digits (n % 100)

-- a date and a time of day as they are written, whether they exist or not
pub record Written : Type 0 where
  pub year : ℕ
  pub month : ℕ
  pub day : ℕ
  pub hour : ℕ
  pub minute : ℕ
  pub second : ℕ

-- each number fits in its digits
abbrev pub HasRoom : Written → Type 0
HasRoom w =
    (w.year < 10000) × (w.month < 100) × (w.day < 100)
    × (w.hour < 100) × (w.minute < 100) × (w.second < 100)

-- YYYY-MM-DDTHH:MM:SSZ, with leading zeros (ISO 8601, extended format, in UTC)
abbrev pub written_text : Written → List ℕ
written_text w =
    four_digits w.year ++ codes "-" ++ two_digits w.month ++ codes "-" ++ two_digits w.day
    ++ codes "T" ++ two_digits w.hour ++ codes ":" ++ two_digits w.minute
    ++ codes ":" ++ two_digits w.second ++ codes "Z"

-- the parts of civil fields that are written: all but the weekday
abbrev pub written_of : Civil → Written
written_of c = record {
  year = c.year;
  month = c.month;
  day = c.day;
  hour = c.hour;
  minute = c.minute;
  second = c.second;
}

-- the timestamp of second n: its civil fields as text
unfoldable pub moment_text_of : ℕ → List ℕ
moment_text_of n = written_text (written_of (civil_fields n))

-- the text has the form of a timestamp and these numbers
pub record Says (text : List ℕ) (w : Written) : Type 0 where
  pub room : HasRoom w
  pub text_is : text ≡ written_text w

-- the numbers that the reader's fields have (agenda)
abbrev pub written_fields : Fields → Written
written_fields f = record {
  year = f.year;
  month = f.month;
  day = f.day;
  hour = f.hour;
  minute = f.minute;
  second = f.second;
}

-- the calendar has this date, and a day has this time
abbrev pub IsInCalendar : Written → Type 0
IsInCalendar w = IsDateTime w.year w.month w.day w.hour w.minute w.second

-- the seconds from 1970-01-01T00:00:00Z to this date and time, negative for earlier ones
abbrev pub written_second : Written → ℤ
written_second w = second_number w.year w.month w.day w.hour w.minute w.second

-- the date and time are before the first supported year, or after the end (agenda)
abbrev pub IsOutOfYears : Written → Type 0
IsOutOfYears w = (written_second w <ℤ pos 0) ⊎ (pos end_second <ℤ written_second w)

-- the first error of a text: in its form, then in its date or time, then in its year (agenda)
abbrev pub HasFault : List ℕ → MomentFault → Type 0
HasFault text BadForm = (w : Written) → ¬ (Says text w)
HasFault text NoSuchDate = (w : Written) × Says text w × (¬ (IsInCalendar w))
HasFault text OutOfYears = (w : Written) × Says text w × IsInCalendar w × IsOutOfYears w
