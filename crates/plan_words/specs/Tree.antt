-- A description of a rule: a tree that says what the rule means in the order of its sentence (src/tree.rt).
use Rattle.std.specs.Prelude.{ℕ, Bool, List}
use Rattle.std.specs.Prelude.{Option}
use Rattle.plan_words.specs.declared.names.TimeUnit.{TimeUnit}
pub use Rattle.plan_words.specs.declared.tree.Span.{Span}
pub use Rattle.plan_words.specs.declared.tree.TimeOfDay.{TimeOfDay}
pub use Rattle.plan_words.specs.declared.tree.Window.{Window}
use Rattle.plan_words.specs.declared.names.Weekday.{Weekday}
use Rattle.plan_words.specs.declared.names.Month.{Month}

-- numbers that are evenly spaced, or spans
pub data Values : Type 0 where
  Steps : (first last step : ℕ) → Values
  Items : List Span → Values

-- the smallest unit: all multiples of a number, or values
pub data Lead : Type 0 where
  Cycle : ℕ → Lead
  Among : Values → Lead

-- the hours of the day
pub data Hours : Type 0 where
  AllHours : Hours
  HourSteps : (first last step : ℕ) → Hours
  HourList : List ℕ → Hours

-- the times of the day
pub data Time : Type 0 where
  Listed : List TimeOfDay → Time
  WholeDay : (count : ℕ) → TimeUnit → Time
  Windows : (count : ℕ) → TimeUnit → List Window → Time
  Minutes : Lead → Hours → Time
  -- None: all minutes
  Seconds : Lead → Option Values → Hours → Time

-- days of the month, from its start or by their place from its end
pub data Dates : Type 0 where
  FromStart : Values → Dates
  FromEnd : Values → Dates
  LastDays : ℕ → Dates

-- days of the week
pub data Week : Type 0 where
  WeekRun : (first last : Weekday) → Week
  WeekList : List Weekday → Week

-- the days
pub data Days : Type 0 where
  AnyDay : Days
  OnWeekdays : Week → Days
  OnDates : Dates → Days
  OnNth : ℕ → (from_end : Bool) → Weekday → Days
  OnBoth : Dates → Week → Days
  OnEither : Dates → Week → Days

-- the months
pub data Months : Type 0 where
  AllMonths : Months
  MonthRun : (first last : Month) → Months
  MonthList : List Month → Months

-- when a rule starts its job by the clock
pub record Schedule : Type 0 where
  pub time : Time
  pub days : Days
  pub months : Months
  -- None: all years
  pub years : Option Values
  -- the zone that the rule names, if it names one
  pub zone : Option (List ℕ)

-- a description of a rule
pub data Description : Type 0 where
  -- `@reboot`
  OnReboot : Description
  Scheduled : Schedule → Description
