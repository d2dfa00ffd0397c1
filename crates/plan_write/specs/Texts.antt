-- The text of an agenda, by its format.
use Rattle.std.specs.Prelude.{ℕ, Bool, true, false, if◌then◌else◌, List, [], ◌∷◌, ◌++◌, codes, decimal, length, map, Option, Some, None, option_map, slice_get, refl}
use Rattle.std.specs.Coded.{Coded, code_by, coded×, coded_list, coded_ℕ}
use Rattle.std.specs.List.{enumerate_from, flat_map}
use Rattle.plan_rules.specs.Job.{JobParts}
use Rattle.plan_rules.specs.declared.NamedZone.{NamedZone}
use Rattle.plan_collect.specs.Agenda.{Planned}
use Rattle.plan_collect.specs.Windows.{latest_start}
use Rattle.plan_write.specs.Json.{json_string}
use Rattle.plan_write.specs.TimeFields.{field_text, time_column}
use Rattle.plan_write.specs.declared.formats.Format.{Format}
use Rattle.plan_write.specs.declared.line_ends.JobFile.{JobFile}
use Rattle.plan_write.specs.declared.time_fields.TimeField.TheVariants.{Start, Latest}

-- ---- the ends of lines

-- what a job runs, as a line of text shows it: the user and a space, if there is a user, and the command (agenda)
abbrev pub run_text : (user : Option (List ℕ)) → (command : List ℕ) → List ℕ
run_text None command = command
run_text (Some user) command = user ++ (codes " " ++ command)

-- the end of each line of a job in text: its name, a tab, what it runs, and a newline (agenda)
abbrev pub end_text : JobParts → List ℕ
end_text job = job.name ++ (codes "\t" ++ (run_text job.user job.command ++ codes "\n"))

-- the member of a job's user, if it has one (agenda)
abbrev pub user_member : (user : Option (List ℕ)) → List ℕ
user_member None = []
user_member (Some user) = codes ",\"user\":" ++ json_string user

-- a job's line in its file: a number in decimal, or null if the job comes from no single line (agenda)
abbrev pub line_value : (line : Option (List ℕ)) → List ℕ
line_value None = codes "null"
line_value (Some line) = line

-- the members of the file that a job comes from, if it is given: its path, and the job's line (agenda)
abbrev pub file_members : Option JobFile → List ℕ
file_members None = []
file_members (Some file) = codes ",\"path\":" ++ (json_string file.path ++ (codes ",\"line\":" ++ line_value file.line))

-- a further string of an array
abbrev pub more_string : List ℕ → List ℕ
more_string text = codes "," ++ json_string text

-- the member of these scripts, if there are any (agenda)
abbrev pub paths_member : (scripts : List (List ℕ)) → List ℕ
paths_member [] = []
paths_member (first ∷ more) = (codes ",\"scripts\":[" ++ json_string first) ++ (flat_map more_string more ++ codes "]")

-- the member of a job's scripts, if it is known to have some (agenda)
abbrev pub scripts_member : Option JobFile → List ℕ
scripts_member None = []
scripts_member (Some file) = paths_member file.scripts

-- the end of each object of a job: its name, its file, if that is given, its user, if it has one, its command, and its scripts, if it
-- has some (agenda)
abbrev pub end_members_of : Option JobFile → JobParts → List ℕ
end_members_of file job =
    codes ",\"job\":"
    ++ (json_string job.name
    ++ (file_members file ++ (user_member job.user
    ++ (codes ",\"run\":" ++ (json_string job.command ++ (scripts_member file ++ codes "}\n"))))))

-- the same without a file
abbrev pub end_members : JobParts → List ℕ
end_members job = end_members_of None job

-- the end of each line of a job
abbrev pub end_in : (json : Bool) → JobParts → List ℕ
end_in true job = end_members job
end_in false job = end_text job

-- what the lines of a job need: the text of their end, and the job's delay in seconds
pub record EndParts : Type 0 where
  pub text : List ℕ
  pub delay : ℕ

-- these are stored as the pair of them
abbrev pub end_code : Coded EndParts
end_code =
    code_by (List ℕ × ℕ) (coded× (coded_list coded_ℕ) coded_ℕ) (λ end. (end.text, end.delay))
    (λ t. record { text = t.0; delay = t.1 }) (λ _. refl)

-- what the lines of this job need
abbrev pub line_end : (json : Bool) → JobParts → EndParts
line_end json job = record { text = end_in json job; delay = job.delay }

-- what the objects of this job need
abbrev pub object_end : Option JobFile → JobParts → EndParts
object_end file job = record { text = end_members_of file job; delay = job.delay }

-- what is made of each job and of the file at the job's place, if there is one
abbrev pub by_files : {X : Type 0} → (Option JobFile → JobParts → X) → List JobFile → List JobParts → List X
by_files made files jobs = map (λ job. made (slice_get files job.0) job.1) (enumerate_from 0 jobs)

-- what the objects of jobs need
abbrev pub object_ends : List JobFile → List JobParts → List EndParts
object_ends files jobs = by_files object_end files jobs

-- ---- lines

-- the time of the latest start for a start of a job with this delay, if delays count (agenda)
abbrev pub latest_field : Format → (delays : Bool) → (delay : ℕ) → (at : Option ℕ) → List ℕ
latest_field format true delay at = field_text format Latest (option_map (latest_start delay) at)
latest_field format false delay at = []

-- the line of a job that starts at a time, if it starts: that time, the latest one, and the end of the job's lines (agenda)
abbrev pub job_line : Format → (delays : Bool) → (at : Option ℕ) → EndParts → List ℕ
job_line format delays at end = field_text format Start at ++ (latest_field format delays end.delay at ++ end.text)

-- the same, if there is such a job
abbrev pub line_of : Format → (delays : Bool) → (at : Option ℕ) → Option EndParts → List ℕ
line_of format delays at None = []
line_of format delays at (Some end) = job_line format delays at end

-- the lines of entries, in order, by the ends of the lines of each job
abbrev pub lines_of : Format → (delays : Bool) → List (ℕ × ℕ) → (ends : List EndParts) → List ℕ
lines_of format delays entries ends = flat_map (λ entry. line_of format delays (Some entry.0) (slice_get ends entry.1)) entries

-- ---- the header

-- the version of the text: the second, or the third if delays count (agenda)
abbrev pub version : (delays : Bool) → List ℕ
version true = codes "agenda 3"
version false = codes "agenda 2"

-- the name of the zone by whose clock times are shown, if there is one (agenda)
abbrev pub zone_mark : (local : Option NamedZone) → List ℕ
zone_mark None = []
zone_mark (Some zone) = codes " " ++ zone.name

-- the start of the span of an agenda and its end, each between tabs (agenda)
abbrev pub span_columns : (local : Option NamedZone) → Planned → List ℕ
span_columns local made = codes "\t" ++ (time_column local (Some made.span.since) ++ time_column local (Some made.span.upto))

-- the header of an agenda: the version of its text, the zone, the start of the span, its end, and the number of entries, in
-- decimal (agenda)
abbrev pub header_of : (local : Option NamedZone) → (delays : Bool) → Planned → List ℕ
header_of local delays made =
    version delays ++ (zone_mark local ++ (span_columns local made ++ (decimal (length made.entries) ++ codes "\n")))

-- the same, which JSON doesn't have (agenda)
abbrev pub header_in : Format → (delays : Bool) → Planned → List ℕ
header_in format delays made = if format.json then [] else header_of format.local delays made

-- ---- the whole text

-- the agenda's text by the ends of the lines of each job: the header, then a line for each entry, in order (agenda)
abbrev pub text_by_ends : Format → (delays : Bool) → Planned → (ends : List EndParts) → List ℕ
text_by_ends format delays made ends = header_in format delays made ++ lines_of format delays made.entries ends

-- the agenda's text: that by the ends of the lines of its jobs (agenda)
abbrev pub agenda_text : Format → (delays : Bool) → Planned → List JobParts → List ℕ
agenda_text format delays made jobs = text_by_ends format delays made (map (line_end format.json) jobs)
