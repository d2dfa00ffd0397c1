-- The lines of a crontab that cronie starts in the time zone of a setting (crontab(5) of cronie, `CRON_TZ`).
use Rattle.std.specs.Prelude.{ℕ, ◌+◌, Bool, true, false, nat_lt, if◌then◌else◌, List, [], ◌∷◌, ◌++◌, length, drop, map, take, Option, None, Some, Ok, Err, codes}
use Rattle.std.specs.List.{list_any}
use Rattle.std.specs.Str.{bytes_eq}
use Rattle.plan_loads.specs.Texts.{KnownLoading}
use Rattle.plan_rules.specs.declared.crontabs.Kind.{Kind}
use Rattle.plan_rules.specs.Crontab.{line_reading}
use Rattle.plan_rules.specs.Job.{JobParts}
use Rattle.plan_rules.specs.LineFaults.{LineReading, TextReading}
use Rattle.plan_rules.specs.Timer.{setting_of}
use Rattle.plan_texts.specs.Lines.{lines, written}
use Rattle.plan_timers.specs.declared.reports.NotPlanned.{NotPlanned}
use Rattle.plan_timers.specs.declared.reports.Unplanned.TheVariants.{LineUnknown}

-- ---- the setting

-- the names of the setting, which may have quotes around them (crontab(5) of cronie)
abbrev pub zone_names : List (List ℕ)
zone_names = codes "CRON_TZ" ∷ codes "\"CRON_TZ\"" ∷ codes "'CRON_TZ'" ∷ []

abbrev pub names_zone : Option (List ℕ × List ℕ) → Bool
names_zone None = false
names_zone (Some setting) = list_any (bytes_eq setting.0) zone_names

-- a line sets the zone of the lines below it
abbrev pub sets_zone : List ℕ → Bool
sets_zone line = names_zone (setting_of line)

-- the place of the first line that does, or the number of lines
abbrev pub zone_place : List (List ℕ) → ℕ
zone_place [] = 0
zone_place (line ∷ more) = if sets_zone line then 0 else 1 + zone_place more

-- ---- the lines below it

abbrev pub zone_why : List ℕ
zone_why = codes "after CRON_TZ=, which agenda does not read"

-- a line that has a job
abbrev pub has_job : LineReading (Option JobParts) → Bool
has_job (Ok (Some job)) = true
has_job (Ok None) = false
has_job (Err cause) = false

-- each line with a job isn't planned; the first of these lines has this number
abbrev pub jobs_from : Kind → (path : List ℕ) → (number : ℕ) → List (List ℕ) → List NotPlanned
jobs_from kind path number [] = []
jobs_from kind path number (line ∷ more) =
    (if has_job (line_reading [] kind number line) then record { path = path; why = LineUnknown number zone_why } ∷ [] else [])
    ++ jobs_from kind path (number + 1) more

-- the lines up to the first that sets the zone, and what is below it
abbrev pub zone_loading_at : Kind → (path text : List ℕ) → (ls : List (List ℕ)) → (place : ℕ) → KnownLoading
zone_loading_at kind path text ls place =
    if nat_lt place (length ls)
    then record { text = Some (written (take (place + 1) ls)); reports = jobs_from kind path (place + 2) (drop (place + 1) ls) }
    else record { text = Some text; reports = [] }

abbrev pub zone_loading_by : Kind → (path text : List ℕ) → TextReading (List ℕ) → KnownLoading
zone_loading_by kind path text (Ok read) = zone_loading_at kind path text (lines read) (zone_place (lines read))
zone_loading_by kind path text (Err fault) = record { text = Some text; reports = [] }
