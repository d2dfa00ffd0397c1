-- The text of changes (agenda).
use Rattle.std.specs.Prelude.{ℕ, if◌then◌else◌, List, [], ◌++◌, codes, Option, None, Some, slice_get}
use Rattle.std.specs.List.{flat_map}
use Rattle.plan_sets.specs.Moment.{moment_text_of}
use Rattle.plan_rules.specs.declared.NamedZone.{NamedZone}
use Rattle.plan_baseline.specs.Line.{Line}
use Rattle.plan_write.specs.Json.{json_string}
use Rattle.plan_write.specs.TimeFields.{local_member, time_text}
use Rattle.plan_write.specs.declared.formats.Format.{Format}
use Rattle.plan_write.specs.declared.time_fields.TimeField.TheVariants.{Start}
use Rattle.plan_changes.specs.declared.change.Change.{Change}
use Rattle.plan_changes.specs.declared.change.ChangeKind.{ChangeKind}
use Rattle.plan_changes.specs.declared.change.ChangeKind.TheVariants.{Added, Removed}

-- the sign of a change
abbrev pub sign : ChangeKind → List ℕ
sign Removed = codes "-"
sign Added = codes "+"

-- the line of a change in text: its sign, the time of the start, the name of its job, and what that runs, with tabs between them
abbrev pub columns : (local : Option NamedZone) → ChangeKind → Line → List ℕ
columns local kind line =
    (sign kind ++ codes "\t")
    ++ (time_text local line.second ++ ((codes "\t" ++ line.job) ++ ((codes "\t" ++ line.runs) ++ codes "\n")))

-- the members of the time of a start: in UTC, and by the clock of a zone if one is given
unfoldable pub start_members : (local : Option NamedZone) → (second : ℕ) → List ℕ
start_members local second =
    codes ",\"start\":\"" ++ (moment_text_of second ++ (codes "\"" ++ local_member local Start (Some second)))

-- the members of the name of a job and of what it runs, and the end of the object
unfoldable pub text_members : (job runs : List ℕ) → List ℕ
text_members job runs = (codes ",\"job\":" ++ json_string job) ++ ((codes ",\"run\":" ++ json_string runs) ++ codes "}\n")

-- the object of a change: its sign, the time of the start, the name of its job, and what that runs
abbrev pub object : (local : Option NamedZone) → ChangeKind → Line → List ℕ
object local kind line =
    codes "{\"change\":\"" ++ ((sign kind ++ codes "\"") ++ (start_members local line.second ++ text_members line.job line.runs))

-- the line of a change, if its start is there
abbrev pub change_line : Format → ChangeKind → Option Line → List ℕ
change_line format kind None = []
change_line format kind (Some line) = if format.json then object format.local kind line else columns format.local kind line

-- the start of a change: a removed one is of the earlier list, and an added one of the later list
abbrev pub start_in : (before now : List Line) → ChangeKind → (place : ℕ) → Option Line
start_in before now Removed place = slice_get before place
start_in before now Added place = slice_get now place

-- a line for each change, in order
abbrev pub changes_text : Format → (before now : List Line) → List Change → List ℕ
changes_text format before now changes =
    flat_map (λ change. change_line format change.kind (start_in before now change.kind change.place)) changes
