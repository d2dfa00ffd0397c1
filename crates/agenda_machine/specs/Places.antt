-- The sources of a machine for `check`, and the files that its findings come from (agenda).
use Rattle.std.specs.Prelude.{◌≡◌, ℕ, ◌+◌, ◌<◌, Bool, true, false, List, [], ◌∷◌, length, map, sum, take, Option, None, Some, slice_get}
use Rattle.std.specs.List.{flat_map}
use Rattle.agenda_sources.specs.declared.Found.{Found}
use Rattle.agenda_sources.specs.declared.Source.{Source}
use Rattle.agenda_sources.specs.declared.SourcePath.{SourcePath}
use Rattle.plan_machine.specs.Source.{SourceParts}
use Rattle.plan_parts.specs.declared.Origin.{Origin}
use Rattle.plan_parts.specs.Files.{FileBytes, texts_of}
use Rattle.plan_parts.specs.Origin.{origin_of}
use Rattle.plan_parts.specs.Parts.{files_of, text_of}
use Rattle.plan_rules.specs.declared.SourceKind.{SourceKind}
use Rattle.plan_write.specs.Shown.{shown}
use Rattle.agenda_machine.specs.Paths.{below}

-- ---- what `check` reads

-- a source as a plan reads it, with the text that its files are merged into
abbrev pub source_of : SourceParts → Source
source_of source = record { kind = source.kind; name = source.name; bytes = text_of source.parts }

-- the sources of a machine
abbrev pub sources_of : List SourceParts → List Source
sources_of sources = map source_of sources

-- a path: as it is for JSON, and otherwise as people are shown it
abbrev pub path_in : (json : Bool) → List ℕ → List ℕ
path_in true path = path
path_in false path = shown path

-- the path of a file of a source of a kind
abbrev pub file_path : (json : Bool) → (root : List ℕ) → SourceKind → FileBytes → SourcePath
file_path json root kind file = record { kind = kind; path = path_in json (below root file.path) }

-- the paths of the files of a source
abbrev pub source_paths : (json : Bool) → (root : List ℕ) → SourceParts → List SourcePath
source_paths json root source = map (file_path json root source.kind) (files_of source.parts)

-- the paths of the files of all sources
abbrev pub paths_of : (json : Bool) → (root : List ℕ) → List SourceParts → List SourcePath
paths_of json root sources = flat_map (source_paths json root) sources

-- ---- where findings are

-- how many files sources have
abbrev pub part_count : List SourceParts → ℕ
part_count sources = sum (map (λ source. length (files_of source.parts)) sources)

-- how many files come before each source, after so many others
abbrev pub counts_before : (before : ℕ) → List SourceParts → List ℕ
counts_before before [] = []
counts_before before (source ∷ more) = before ∷ counts_before (before + length (files_of source.parts)) more

-- a finding at an origin in the files of a source, before which there are so many files of other sources
abbrev pub found_from : (before : ℕ) → Origin → Found → Found
found_from before origin one =
    record { place = before + origin.part; finding = record one.finding { line = origin.line } }

-- a finding in the source that has its place; one of no source stays as it is
abbrev pub found_in : (before : ℕ) → Option SourceParts → Found → Found
found_in before None one = one
found_in before (Some source) one = found_from before (origin_of (texts_of (files_of source.parts)) one.finding.line) one

-- a finding by the file that it comes from: its place among the files of all sources, and its line there
abbrev pub located_at : List SourceParts → Found → Found
located_at sources one = found_in (part_count (take one.place sources)) (slice_get sources one.place) one

-- the path at the place of a finding is that of the file that the finding comes from
abbrev pub PlacesHavePaths : Type 0
PlacesHavePaths =
    (json : Bool) → (root : List ℕ) → (sources : List SourceParts) → (source : SourceParts) → (one : Found) →
    slice_get sources one.place ≡ Some source → 0 < length (files_of source.parts) →
    slice_get (paths_of json root sources) (located_at sources one).place
    ≡ slice_get (source_paths json root source) (origin_of (texts_of (files_of source.parts)) one.finding.line).part

-- findings by the files that they come from
abbrev pub located : List SourceParts → List Found → List Found
located sources found = map (located_at sources) found
