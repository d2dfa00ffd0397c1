-- What of a machine may start jobs at times that its files don't tell (agenda).
use Rattle.std.specs.Prelude.{ℕ, Bool, true, false, ◌&&◌, ◌==◌, nat_lt, if◌then◌else◌, List, [], ◌∷◌, ◌++◌, Option, None, Some, codes, filter, length, map, slice_get}
use Rattle.std.specs.List.{flat_map, list_any}
use Rattle.std.specs.Str.{bytes_eq}
use Rattle.agenda_sources.specs.declared.Found.{Found}
use Rattle.agenda_sources.specs.declared.SourcePath.{SourcePath}
use Rattle.plan_check.specs.declared.FindingKind.{FindingKind}
use Rattle.plan_check.specs.declared.FindingKind.TheVariants.{Full}
use Rattle.plan_machine.specs.Source.{SourceParts}
use Rattle.plan_machine.specs.declared.NotPlanned.{NotPlanned}
use Rattle.plan_machine.specs.declared.Skipped.{Skipped}
use Rattle.plan_machine.specs.declared.Unplanned.{Unplanned}
use Rattle.plan_machine.specs.declared.Unplanned.TheVariants.{LineNotLoaded, LineUnknown, NotLoaded}
use Rattle.plan_parts.specs.Parts.{files_of}
use Rattle.plan_rules.specs.Crontab.{job_name}
use Rattle.plan_rules.specs.declared.SourceKind.{SourceKind}
use Rattle.plan_rules.specs.declared.SourceKind.TheVariants.{Timer}
use Rattle.plan_timers.specs.Reports.{is_unknown, is_unknown_skip}
use Rattle.agenda_machine.specs.declared.unknown.Name.{Name}
use Rattle.agenda_machine.specs.declared.unknown.Reading.{Reading}
use Rattle.agenda_machine.specs.declared.unknown.Unknown.{Unknown}
use Rattle.agenda_machine.specs.JobFiles.{label_of}
use Rattle.agenda_machine.specs.Paths.{below}
use Rattle.agenda_machine.specs.Places.{path_in}

-- ---- names

-- a source has a file with this path, as it is printed
abbrev pub has_file : (root path : List ℕ) → SourceParts → Bool
has_file root path source = list_any (λ file. bytes_eq (path_in false (below root file.path)) path) (files_of source.parts)

-- the job of a line of a timer or a crontab with this label: that of a timer is the timer, and all of a crontab, line 0, is no job
abbrev pub job_at : SourceKind → (label : List ℕ) → (line : ℕ) → Option (List ℕ)
job_at Timer label line = Some label
job_at kind label line = if line == 0 then None else Some (job_name label line)

abbrev pub name_at : (line : ℕ) → SourceParts → Name
name_at line source =
    let label = label_of source.kind source.name in record { label = label; job = job_at source.kind label line }

-- the names that a line of a file has, or all of it: one for each source with the file, such as each instance of a template
abbrev pub names_at : (root : List ℕ) → List SourceParts → (path : List ℕ) → (line : ℕ) → List Name
names_at root sources path line = map (name_at line) (filter (has_file root path) sources)

-- ---- what isn't planned or is skipped

-- the line of something that isn't planned, or 0
abbrev pub line_of : Unplanned → ℕ
line_of (LineUnknown line why) = line
line_of other = 0

-- what is at a line of a file, or all of the file
abbrev pub unknown_at : (root : List ℕ) → List SourceParts → (path : List ℕ) → (line : ℕ) → Unknown
unknown_at root sources path line = record { path = path; names = names_at root sources path line }

-- what is of the whole machine goes by the path of its root
abbrev pub unknown_root : (root : List ℕ) → Unknown
unknown_root root = record { path = root ++ codes "/"; names = [] }

-- what isn't planned and isn't off
abbrev pub unknown_job : (root : List ℕ) → List SourceParts → NotPlanned → List Unknown
unknown_job root sources one =
    if is_unknown one.why then unknown_at root sources (path_in false (below root one.path)) (line_of one.why) ∷ [] else []

-- what is skipped and isn't off
abbrev pub unknown_path : (root : List ℕ) → Skipped → List Unknown
unknown_path root one =
    if is_unknown_skip one.why then record { path = path_in false (below root one.path); names = [] } ∷ [] else []

-- ---- what is rejected

-- what isn't loaded for this reason has the line of a source of a kind: cron ignores a whole crontab for a line, and systemd that line of
-- a timer
abbrev pub covers : SourceKind → (line : ℕ) → Unplanned → Bool
covers kind line (NotLoaded why) = true
covers Timer line (LineNotLoaded other why) = line == other
covers kind line (LineNotLoaded other why) = true
covers kind line why = false

-- a daemon doesn't load a line of a file
abbrev pub is_unloaded : (root : List ℕ) → SourcePath → (line : ℕ) → NotPlanned → Bool
is_unloaded root path line one = covers path.kind line one.why && bytes_eq (path_in false (below root one.path)) path.path

-- the file of an error: that there are too many jobs is of all, since any job may be missing then
abbrev pub file_of : List SourcePath → FindingKind → (place : ℕ) → Option SourcePath
file_of paths Full place = None
file_of paths kind place = slice_get paths place

-- an error in what a daemon loads: the daemon may read what agenda can't. What isn't loaded of a file that several sources have may be
-- loaded of another
abbrev pub unknown_error : (root : List ℕ) → List SourceParts → List NotPlanned → Option SourcePath → (line : ℕ) → List Unknown
unknown_error root sources unplanned None line = unknown_root root ∷ []
unknown_error root sources unplanned (Some file) line =
    if list_any (is_unloaded root file line) unplanned && nat_lt (length (names_at root sources file.path line)) 2 then []
    else unknown_at root sources file.path line ∷ []

abbrev pub unknown_line : (root : List ℕ) → List SourceParts → List NotPlanned → List SourcePath → Found → List Unknown
unknown_line root sources unplanned paths error =
    unknown_error root sources unplanned (file_of paths error.finding.kind error.place) error.finding.line

-- ---- all

-- a zone that can't be told
abbrev pub unknown_zone : (root : List ℕ) → (is_unknown : Bool) → List Unknown
unknown_zone root is_unknown = if is_unknown then unknown_root root ∷ [] else []

-- all that may start jobs at times that the files of a machine don't tell: by its sources, what is skipped and what isn't planned there,
-- and the errors in the files with these paths
abbrev pub unknowns_of :
    (root : List ℕ) → List SourceParts → List Skipped → List NotPlanned → List SourcePath → (errors : List Found) →
    (is_zone_unknown : Bool) → List Unknown
unknowns_of root sources skipped unplanned paths errors is_zone_unknown =
    flat_map (unknown_job root sources) unplanned ++ flat_map (unknown_path root) skipped
    ++ flat_map (unknown_line root sources unplanned paths) errors ++ unknown_zone root is_zone_unknown

abbrev pub unknowns : Reading → List Unknown
unknowns reading =
    unknowns_of reading.root.now reading.machine.now.sources.items reading.machine.now.skipped.items
    reading.machine.now.unplanned.items reading.paths.now reading.errors.now reading.is_zone_unknown
