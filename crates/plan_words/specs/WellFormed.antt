-- Which descriptions have a sentence of their own: those without empty lists, and with years that the steps reach.
use Rattle.std.specs.Prelude.{◌≡◌, ℕ, ◌+◌, ◌-◌, ◌%◌, ◌<◌, true, not, ◌==◌, List, [], ◌∷◌, Option, Some, None}
use Rattle.std.specs.List.{list_all}
use Rattle.std.specs.Str.{byte}
use Rattle.plan_sets.specs.Limits.{last_year}
use Rattle.plan_words.specs.Tree as tree
use Rattle.plan_words.specs.Tree.{Values, Steps, Items, Lead, Cycle, Among, Hours, AllHours, HourSteps, HourList, Time, Listed, WholeDay, Windows, Minutes, Seconds, Dates, FromStart, FromEnd, LastDays, Week, WeekRun, WeekList, AnyDay, OnWeekdays, OnDates, OnNth, OnBoth, OnEither, Months, AllMonths, MonthRun, MonthList, Schedule, Description, OnReboot, Scheduled}

-- a list of spans isn't empty
abbrev pub AreItems : Values → Type 0
AreItems (Steps first last step) = Unit {0}
AreItems (Items []) = ⊥
AreItems (Items (x ∷ xs)) = Unit {0}

-- the same of minutes, if there are any
abbrev pub AreSomeItems : Option Values → Type 0
AreSomeItems None = Unit {0}
AreSomeItems (Some values) = AreItems values

-- the same of the smallest unit
abbrev pub IsLead : Lead → Type 0
IsLead (Cycle n) = Unit {0}
IsLead (Among values) = AreItems values

-- a list of hours isn't empty
abbrev pub AreHours : Hours → Type 0
AreHours AllHours = Unit {0}
AreHours (HourSteps first last step) = Unit {0}
AreHours (HourList []) = ⊥
AreHours (HourList (x ∷ xs)) = Unit {0}

-- no list of a time is empty
abbrev pub IsTime : Time → Type 0
IsTime (Listed []) = ⊥
IsTime (Listed (x ∷ xs)) = Unit {0}
IsTime (WholeDay count unit) = Unit {0}
IsTime (Windows count unit []) = ⊥
IsTime (Windows count unit (x ∷ xs)) = Unit {0}
IsTime (Minutes lead hours) = IsLead lead × AreHours hours
IsTime (Seconds lead minutes hours) = IsLead lead × AreSomeItems minutes × AreHours hours

-- the last of the years is the last that the step reaches
abbrev pub AreYears : Option Values → Type 0
AreYears None = Unit {0}
AreYears (Some (Steps first last step)) = last_year < last + step → last ≡ last_year - (last_year - first) % step
AreYears (Some (Items [])) = ⊥
AreYears (Some (Items (x ∷ xs))) = Unit {0}

-- a list of months isn't empty
abbrev pub AreMonths : Months → Type 0
AreMonths AllMonths = Unit {0}
AreMonths (MonthRun first last) = Unit {0}
AreMonths (MonthList []) = ⊥
AreMonths (MonthList (x ∷ xs)) = Unit {0}

-- no list of dates is empty
abbrev pub AreDates : Dates → Type 0
AreDates (FromStart values) = AreItems values
AreDates (FromEnd values) = AreItems values
AreDates (LastDays n) = Unit {0}

-- a list of weekdays isn't empty
abbrev pub IsWeek : Week → Type 0
IsWeek (WeekRun first last) = Unit {0}
IsWeek (WeekList []) = ⊥
IsWeek (WeekList (x ∷ xs)) = Unit {0}

-- no list of days is empty
abbrev pub AreDays : tree.Days → Type 0
AreDays AnyDay = Unit {0}
AreDays (OnWeekdays week) = IsWeek week
AreDays (OnDates dates) = AreDates dates
AreDays (OnNth k from_end w) = Unit {0}
AreDays (OnBoth dates week) = AreDates dates × IsWeek week
AreDays (OnEither dates week) = AreDates dates × IsWeek week

-- the name of a zone has no blank
abbrev pub IsZone : Option (List ℕ) → Type 0
IsZone None = Unit {0}
IsZone (Some name) = list_all (λ b. not (b == byte " ")) name ≡ true

-- each part of a schedule has a sentence of its own
pub record IsSchedule (s : Schedule) : Type 0 where
  pub time : IsTime s.time
  pub days : AreDays s.days
  pub months : AreMonths s.months
  pub years : AreYears s.years
  pub zone : IsZone s.zone

-- a description has a sentence of its own
abbrev pub IsWellFormed : Description → Type 0
IsWellFormed OnReboot = Unit {0}
IsWellFormed (Scheduled s) = IsSchedule s
