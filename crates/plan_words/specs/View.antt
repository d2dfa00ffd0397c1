-- The tree that a description of the code is.
use Rattle.std.specs.Prelude.{Option}
use Rattle.std.specs.Option.{option_map}
use Rattle.plan_words.specs.declared.tree.Values.{Values}
use Rattle.plan_words.specs.declared.tree.Values.TheVariants as values
use Rattle.plan_words.specs.declared.tree.Lead.{Lead}
use Rattle.plan_words.specs.declared.tree.Lead.TheVariants as lead
use Rattle.plan_words.specs.declared.tree.Hours.{Hours}
use Rattle.plan_words.specs.declared.tree.Hours.TheVariants as hours
use Rattle.plan_words.specs.declared.tree.Time.{Time}
use Rattle.plan_words.specs.declared.tree.Time.TheVariants as time
use Rattle.plan_words.specs.declared.tree.Dates.{Dates}
use Rattle.plan_words.specs.declared.tree.Dates.TheVariants as dates
use Rattle.plan_words.specs.declared.tree.Week.{Week}
use Rattle.plan_words.specs.declared.tree.Week.TheVariants as week
use Rattle.plan_words.specs.declared.tree.Days.{Days}
use Rattle.plan_words.specs.declared.tree.Days.TheVariants as days
use Rattle.plan_words.specs.declared.tree.Months.{Months}
use Rattle.plan_words.specs.declared.tree.Months.TheVariants as months
use Rattle.plan_words.specs.declared.tree.Schedule.{Schedule}
use Rattle.plan_words.specs.declared.tree.Description.{Description}
use Rattle.plan_words.specs.declared.tree.Description.TheVariants as description
use Rattle.plan_words.specs.Tree as tree

-- values
abbrev pub values_of : Values → tree.Values
values_of (values.Steps first last step) = tree.Steps first last step
values_of (values.Items spans) = tree.Items spans.items

-- the smallest unit
abbrev pub lead_of : Lead → tree.Lead
lead_of (lead.Cycle n) = tree.Cycle n
lead_of (lead.Among v) = tree.Among (values_of v)

-- hours
abbrev pub hours_of : Hours → tree.Hours
hours_of hours.All = tree.AllHours
hours_of (hours.Steps first last step) = tree.HourSteps first last step
hours_of (hours.List list) = tree.HourList list.items

-- values, if there are any
abbrev pub some_values_of : Option Values → Option tree.Values
some_values_of v = option_map values_of v

-- a time
abbrev pub time_of : Time → tree.Time
time_of (time.Listed times) = tree.Listed times.items
time_of (time.WholeDay count unit) = tree.WholeDay count unit
time_of (time.Windows count unit windows) = tree.Windows count unit windows.items
time_of (time.Minutes l h) = tree.Minutes (lead_of l) (hours_of h)
time_of (time.Seconds l m h) = tree.Seconds (lead_of l) (some_values_of m) (hours_of h)

-- dates
abbrev pub dates_of : Dates → tree.Dates
dates_of (dates.FromStart v) = tree.FromStart (values_of v)
dates_of (dates.FromEnd v) = tree.FromEnd (values_of v)
dates_of (dates.LastDays n) = tree.LastDays n

-- weekdays
abbrev pub week_of : Week → tree.Week
week_of (week.Run first last) = tree.WeekRun first last
week_of (week.List list) = tree.WeekList list.items

-- days
abbrev pub days_of : Days → tree.Days
days_of days.Any = tree.AnyDay
days_of (days.Weekdays w) = tree.OnWeekdays (week_of w)
days_of (days.Dates d) = tree.OnDates (dates_of d)
days_of (days.Nth place from_end weekday) = tree.OnNth place from_end weekday
days_of (days.Both d w) = tree.OnBoth (dates_of d) (week_of w)
days_of (days.Either d w) = tree.OnEither (dates_of d) (week_of w)

-- months
abbrev pub months_of : Months → tree.Months
months_of months.All = tree.AllMonths
months_of (months.Run first last) = tree.MonthRun first last
months_of (months.List list) = tree.MonthList list.items

-- a schedule
abbrev pub schedule_of : Schedule → tree.Schedule
schedule_of s = record {
  time = time_of s.time;
  days = days_of s.days;
  months = months_of s.months;
  years = some_values_of s.years;
  zone = s.zone;
}

-- a description
abbrev pub tree_of : Description → tree.Description
tree_of description.Reboot = tree.OnReboot
tree_of (description.Scheduled s) = tree.Scheduled (schedule_of s)
