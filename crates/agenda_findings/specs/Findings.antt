-- The text of findings in sources (agenda).
use Rattle.std.specs.Prelude.{ℕ, Bool, true, false, ◌==◌, if◌then◌else◌, List, [], ◌++◌, codes, decimal, Option, Some, None, slice_get, unwrap_or}
use Rattle.std.specs.List.{flat_map}
use Rattle.plan_check.specs.declared.Finding.{Finding}
use Rattle.plan_check.specs.declared.FindingKind.{FindingKind}
use Rattle.plan_rules.specs.declared.SourceKind.{SourceKind}
use Rattle.agenda_sources.specs.declared.Found.{Found}
use Rattle.agenda_sources.specs.declared.SourcePath.{SourcePath}
use Rattle.plan_write.specs.Json.{json_string}
use Rattle.agenda_findings.specs.Messages.{code_of, detail_in, message, severity}

-- the number of a line, after its path; a finding about the whole file has none
abbrev pub line_mark : ℕ → List ℕ
line_mark line = if line == 0 then [] else codes ":" ++ decimal line

-- what comes before a message: the path, the line's number, and whether it is an error or a warning
abbrev pub before_message : (path : List ℕ) → Finding → List ℕ
before_message path finding = path ++ (line_mark finding.line ++ (codes ": " ++ (severity finding.kind ++ codes ": ")))

-- what comes after a message: the code in brackets
abbrev pub after_message : FindingKind → List ℕ
after_message kind = codes " [" ++ (code_of kind ++ codes "]\n")

-- the message of a finding
abbrev pub message_of : SourceKind → Finding → List ℕ
message_of source finding = message source finding.kind (unwrap_or finding.quote []) ++ detail_in finding.kind finding.detail

-- the line of a finding in a source of a kind
abbrev pub finding_line : (path : List ℕ) → SourceKind → Finding → List ℕ
finding_line path source finding = before_message path finding ++ (message_of source finding ++ after_message finding.kind)

-- the number of a line as a value; a finding about the whole file has none
abbrev pub line_value : ℕ → List ℕ
line_value line = if line == 0 then codes "null" else decimal line

-- the members of whether a finding is an error or a warning, and of its code; no byte of these has an escape
abbrev pub kind_members : FindingKind → List ℕ
kind_members kind = codes ",\"severity\":\"" ++ (severity kind ++ (codes "\",\"code\":\"" ++ (code_of kind ++ codes "\"")))

-- what comes before a message in an object: the path, the line's number, whether it is an error or a warning, and the code
abbrev pub members_before : (path : List ℕ) → Finding → List ℕ
members_before path finding =
    codes "{\"path\":" ++ (json_string path ++ (codes ",\"line\":" ++ (line_value finding.line ++ kind_members finding.kind)))

-- the object of a finding in a source of a kind
abbrev pub finding_object : (path : List ℕ) → SourceKind → Finding → List ℕ
finding_object path source finding =
    members_before path finding ++ (codes ",\"text\":" ++ (json_string (message_of source finding) ++ codes "}\n"))

-- a finding in a source of a kind
abbrev pub finding_in : (json : Bool) → (path : List ℕ) → SourceKind → Finding → List ℕ
finding_in true path source finding = finding_object path source finding
finding_in false path source finding = finding_line path source finding

-- the same, if the source exists
abbrev pub found_line : (json : Bool) → Option SourcePath → Finding → List ℕ
found_line json None finding = []
found_line json (Some source) finding = finding_in json source.path source.kind finding

-- a line for each finding, in order, with the path of its source as it was given; places are counted from 0
abbrev pub check_text : (json : Bool) → List SourcePath → List Found → List ℕ
check_text json paths found = flat_map (λ one. found_line json (slice_get paths one.place) one.finding) found
