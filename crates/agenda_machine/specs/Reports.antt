-- The text of what is skipped and what isn't planned on a machine (agenda).
use Rattle.std.specs.Prelude.{ℕ, ◌==◌, Bool, true, false, not, ◌||◌, if◌then◌else◌, List, [], ◌++◌, length, codes}
use Rattle.std.specs.Fmt.{decimal}
use Rattle.std.specs.List.{flat_map, list_any}
use Rattle.plan_machine.specs.declared.NotPlanned.{NotPlanned}
use Rattle.plan_machine.specs.declared.Skipped.{Skipped}
use Rattle.plan_machine.specs.declared.Unplanned.{Unplanned}
use Rattle.plan_machine.specs.declared.Unplanned.TheVariants.{Idle, LineNotLoaded, LineUnknown}
use Rattle.plan_machine.specs.declared.Why.{Why}
use Rattle.plan_machine.specs.declared.Why.TheVariants.{NotReadable, NotUtf8, WantedBy}
use Rattle.plan_timers.specs.Reports.{is_unknown, unplanned_text, why_text}
use Rattle.agenda_machine.specs.declared.reports.Reports.{Reports}
use Rattle.plan_write.specs.Shown.{shown}
use Rattle.agenda_machine.specs.Paths.{below}

-- ---- the lines

-- what the line of something that is skipped begins with; a timer that a unit outside of the boot wants may start
abbrev pub skipped_heading : Why → List ℕ
skipped_heading (WantedBy unit) = codes "agenda: unknown: "
skipped_heading other = codes "agenda: skipped "

-- the line of something that is skipped
unfoldable pub skipped_line : (root : List ℕ) → Skipped → List ℕ
skipped_line root one =
    skipped_heading one.why ++ (shown (below root one.path) ++ (codes ": " ++ (shown (why_text one.why) ++ codes "\n")))

-- the number of a line that isn't planned; what is unknown at line 0 is no line
abbrev pub line_mark : Unplanned → List ℕ
line_mark (LineNotLoaded line why) = codes ":" ++ decimal line
line_mark (LineUnknown line why) = if line == 0 then [] else codes ":" ++ decimal line
line_mark (Idle line why) = codes ":" ++ decimal line
line_mark other = []

-- the path of something that isn't planned, and its line
abbrev pub place_of : (root : List ℕ) → NotPlanned → List ℕ
place_of root one = shown (below root one.path) ++ line_mark one.why

-- what the line of something that isn't planned begins with; an idle job starts, but runs nothing that has an effect
abbrev pub heading : Unplanned → List ℕ
heading (Idle line why) = codes "agenda: idle: "
heading other = if is_unknown other then codes "agenda: unknown: " else codes "agenda: not planned: "

-- the line of something that isn't planned
unfoldable pub unplanned_line : (root : List ℕ) → NotPlanned → List ℕ
unplanned_line root one =
    heading one.why ++ (place_of root one ++ (codes ": " ++ (shown (unplanned_text one.why) ++ codes "\n")))

-- the line that there is no cron daemon
abbrev pub no_daemon : (is_lacking : Bool) → (dir : List ℕ) → List ℕ
no_daemon is_lacking dir =
    if is_lacking then codes "agenda: no cron daemon below " ++ (shown dir ++ codes ": crontabs start nothing\n") else []

-- the line that the zone is unknown
abbrev pub no_zone : (is_unknown : Bool) → (dir : List ℕ) → List ℕ
no_zone is_unknown dir =
    if is_unknown then codes "agenda: the zone of " ++ (shown dir ++ codes " is unknown: rules are read as UTC\n") else []

-- all lines, below a root and for a directory
abbrev pub lines_of : (root dir : List ℕ) → List Skipped → List NotPlanned → (lacks_cron_daemon is_zone_unknown : Bool) → List ℕ
lines_of root dir skipped unplanned lacks_cron_daemon is_zone_unknown =
    flat_map (skipped_line root) skipped
    ++ (flat_map (unplanned_line root) unplanned ++ (no_daemon lacks_cron_daemon dir ++ no_zone is_zone_unknown dir))

abbrev pub reports_text : Reports → List ℕ
reports_text reports =
    lines_of reports.root.now reports.dir.now reports.skipped.now reports.unplanned.now reports.lacks_cron_daemon
    reports.is_zone_unknown

-- whether there is a line
abbrev pub is_reported : List Skipped → List NotPlanned → (lacks_cron_daemon is_zone_unknown : Bool) → Bool
is_reported skipped unplanned lacks_cron_daemon is_zone_unknown =
    not (length skipped == 0) || (not (length unplanned == 0) || (lacks_cron_daemon || is_zone_unknown))

abbrev pub has_line : Reports → Bool
has_line reports =
    is_reported reports.skipped.now reports.unplanned.now reports.lacks_cron_daemon reports.is_zone_unknown

-- ---- the status

-- whether something is skipped since it can't be read
abbrev pub is_unreadable : Why → Bool
is_unreadable NotReadable = true
is_unreadable NotUtf8 = true
is_unreadable other = false

-- whether anything is
abbrev pub is_incomplete : List Skipped → Bool
is_incomplete skipped = list_any (λ one. is_unreadable one.why) skipped
