-- How the times of a day are said (agenda): S, M and H are the seconds, the minutes and the hours of a rule.
use Rattle.std.specs.Prelude.{ℕ, ◌+◌, ◌-◌, ◌*◌, ◌/◌, ◌%◌, Bool, true, false, not, ◌&&◌, ◌||◌, ◌==◌, nat_le, nat_lt, if◌then◌else◌, List, [], ◌∷◌, ◌++◌, length, map, Option, Some, None}
use Rattle.std.specs.List.{flat_map}
use Rattle.plan_words.specs.declared.names.TimeUnit.{TimeUnit}
use Rattle.plan_words.specs.declared.names.TimeUnit.TheVariants.{Second, Minute, Hour}
use Rattle.plan_words.specs.declared.tree.Span.{Span}
use Rattle.plan_words.specs.declared.tree.TimeOfDay.{TimeOfDay}
use Rattle.plan_words.specs.declared.tree.Window.{Window}
use Rattle.plan_words.specs.Tree.{Values, Lead, Cycle, Among, Hours, AllHours, HourSteps, HourList, Time, Listed, WholeDay, Windows, Minutes, Seconds}
use Rattle.plan_describe.specs.declared.series.Series.{Series}
use Rattle.plan_describe.specs.declared.series.Series.TheVariants.{One, Even, Uneven}
use Rattle.plan_describe.specs.Numbers.{has_number, is_run, is_steps, is_whole, last_of, runs, values_said}
use Rattle.plan_describe.specs.Series.{day, scaled, series_of, series_of_span, sums}

-- the first way of saying that applies
abbrev pub or_else : Option Time → Time → Time
or_else (Some time) later = time
or_else None later = later

-- a second of the day as a time of day
abbrev pub time_at_second : ℕ → TimeOfDay
time_at_second t = record { hour = t / 3600 % 24; minute = t / 60 % 60; second = t % 60 }

-- the largest unit that a step is made of
abbrev pub step_unit : ℕ → TimeUnit
step_unit d = if d % 3600 == 0 then Hour else (if d % 60 == 0 then Minute else Second)

-- the number of these units
abbrev pub step_count : ℕ → ℕ
step_count d = if d % 3600 == 0 then d / 3600 else (if d % 60 == 0 then d / 60 else d)

abbrev pub window : (first last : ℕ) → Window
window first last = record { first = time_at_second first; last = time_at_second last }

-- ---- evenly spaced times

-- at least five times that are evenly spaced: over the whole day, or over a part of it if not all hours are among theirs
abbrev pub evenly_said : (all_hours : Bool) → Series → Option Time
evenly_said all_hours (One v) = None
evenly_said all_hours (Even first last step) =
    if nat_lt last day && nat_le (first + 4 * step) last
    then (if (first == 0) && (last + step == day)
    then Some (WholeDay (step_count step) (step_unit step))
    else (if all_hours then None else Some (Windows (step_count step) (step_unit step) (window first last ∷ []))))
    else None
evenly_said all_hours Uneven = None

-- ---- times of several runs of hours

-- the step of the times of several hours, if they are evenly spaced
abbrev pub step_of_runs : Series → ℕ
step_of_runs (One v) = 3600
step_of_runs (Even first last step) = step
step_of_runs Uneven = 0

-- evenly spaced times of a day as a window, if their step is this one
abbrev pub window_said : (step : ℕ) → Series → Option Window
window_said d (One v) = None
window_said d (Even first last step) = if (step == d) && nat_lt last day then Some (window first last) else None
window_said d Uneven = None

-- what follows a window, if there is one
abbrev pub windows_with : List Window → Option Window → (List Window → Option (List Window)) → Option (List Window)
windows_with known None next = None
windows_with known (Some w) next = next (known ++ w ∷ [])

-- the windows of runs of hours after those that are known; None if the times of a run have no window
abbrev pub windows_after : List Window → (step : ℕ) → (in_hour : Series) → List Span → Option (List Window)
windows_after known d in_hour [] = Some known
windows_after known d in_hour (run ∷ more) =
    windows_with known (window_said d (sums (scaled 3600 (series_of_span run)) 3600 in_hour)) (λ next. windows_after next d in_hour more)

-- windows with their step
abbrev pub time_of_windows : (step : ℕ) → Option (List Window) → Option Time
time_of_windows d None = None
time_of_windows d (Some windows) = Some (Windows (step_count d) (step_unit d) windows)

-- at most three runs of hours, with evenly spaced times in each, by at most an hour
abbrev pub windows_said : (all_hours : Bool) → (runs : List Span) → (in_hour : Series) → Option Time
windows_said all_hours runs in_hour =
    if all_hours || (nat_lt 3 (length runs) || nat_lt 3600 (step_of_runs in_hour))
    then None
    else time_of_windows (step_of_runs in_hour) (windows_after [] (step_of_runs in_hour) in_hour runs)

-- ---- listed times

-- all times, in order
abbrev pub times_in : (seconds minutes hours : List ℕ) → List TimeOfDay
times_in seconds minutes hours =
    flat_map (λ h. flat_map (λ m. map (λ s. time_at_second (3600 * h + (60 * m + s))) seconds) minutes) hours

-- there are at most six times
abbrev pub are_few : (seconds minutes hours : List ℕ) → Bool
are_few seconds minutes hours =
    nat_le (length seconds) 6
    && (nat_le (length minutes) 6 && (nat_le (length hours) 6 && nat_le (length seconds * length minutes * length hours) 6))

-- the list has one number
abbrev pub is_single : List ℕ → Bool
is_single [] = false
is_single (v ∷ []) = true
is_single (v ∷ w ∷ more) = false

-- ---- times by their units

-- the numbers are all multiples of a step that divides 60
abbrev pub cycle_or : Series → Values → Lead
cycle_or (One v) values = Among values
cycle_or (Even first last step) values = if (first == 0) && (last + step == 60) then Cycle step else Among values
cycle_or Uneven values = Among values

-- the smallest unit
abbrev pub lead_said : List ℕ → Lead
lead_said values = cycle_or (scaled 1 (series_of values)) (values_said values)

-- the minutes after the seconds
abbrev pub minutes_said : List ℕ → Option Values
minutes_said minutes = if is_whole 0 59 minutes then None else Some (values_said minutes)

-- hours from the first, by the distance of the first two, to the last
abbrev pub hour_steps : (first second : ℕ) → List ℕ → Hours
hour_steps v w more = HourSteps (v % 24) (last_of w more % 24) (w - v)

-- the hours after the minutes
abbrev pub hours_said : List ℕ → Hours
hours_said [] = HourList []
hours_said (v ∷ []) = HourList (v ∷ [])
hours_said (v ∷ w ∷ more) =
    if is_whole 0 23 (v ∷ w ∷ more)
    then AllHours
    else (if is_run (v ∷ w ∷ more) || is_steps (v ∷ w ∷ more) then hour_steps v w more else HourList (v ∷ w ∷ more))

-- the list is 0 alone
abbrev pub is_zero : List ℕ → Bool
is_zero [] = false
is_zero (v ∷ []) = v == 0
is_zero (v ∷ w ∷ more) = false

-- each unit by itself
abbrev pub units_said : (seconds minutes hours : List ℕ) → Time
units_said seconds minutes hours =
    if is_zero seconds
    then Minutes (lead_said minutes) (hours_said hours)
    else Seconds (lead_said seconds) (minutes_said minutes) (hours_said hours)

-- ---- the choice

-- more than six times that aren't evenly spaced
abbrev pub many_said : (seconds minutes hours : List ℕ) → (all_hours : Bool) → (in_hour : Series) → Time
many_said seconds minutes hours all_hours in_hour =
    or_else (windows_said all_hours (runs hours) in_hour)
    (if not all_hours && (is_single minutes && is_single seconds)
    then Listed (times_in seconds minutes hours)
    else units_said seconds minutes hours)

-- the seconds of an hour
abbrev pub in_hour : (seconds minutes : List ℕ) → Series
in_hour seconds minutes = sums (scaled 60 (series_of minutes)) 60 (scaled 1 (series_of seconds))

-- how the times of a day are said
abbrev pub time_said : (seconds minutes hours : List ℕ) → Time
time_said seconds minutes hours =
    let of_hour = in_hour seconds minutes in
    let all_hours = is_whole 0 23 hours in
    or_else (evenly_said all_hours (sums (scaled 3600 (series_of hours)) 3600 of_hour))
    (if are_few seconds minutes hours
    then Listed (times_in seconds minutes hours)
    else many_said seconds minutes hours all_hours of_hour)

-- the second of a day has one of these seconds, minutes and hours
abbrev pub is_time : (seconds minutes hours : List ℕ) → ℕ → Bool
is_time seconds minutes hours t =
    has_number seconds (t % 60) && (has_number minutes (t / 60 % 60) && has_number hours (t / 3600))
