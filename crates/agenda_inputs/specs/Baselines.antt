-- An agenda that was made earlier, as it is read from a file. All of it is our choice (agenda).
use Rattle.std.specs.Prelude.{◌≡◌, ◌⊎◌, ℕ, if◌then◌else◌, List, codes, Ok, Err}
use Rattle.std.specs.Str.{bytes_eq}
use Rattle.plan_baseline.specs.Line.{Listing}
use Rattle.plan_baseline.specs.Reading.{IsReading}
use Rattle.agenda_faults.specs.declared.faults.Failure.TheVariants.{BadBaseline, File, Run}
use Rattle.agenda_faults.specs.declared.faults.RunFault.TheVariants.{NoMemory}
use Rattle.agenda_inputs.specs.Files.{Held, IsFrontOf, IsUnread}
use Rattle.agenda_inputs.specs.Steps.{Step, ◌>>=◌}

-- the path of a file that is given: `-` is standard input
abbrev pub given_path : (path : List ℕ) → List ℕ
given_path path = if bytes_eq path (codes "-") then codes "/dev/stdin" else path

-- the maximum number of bytes that are read of an agenda: one more than it may have
abbrev pub most_read : ℕ
most_read = 268435457

-- the text of the file with a path
abbrev pub text_of : Held → (path : List ℕ) → Step (List ℕ)
text_of held path (Ok bytes) = IsFrontOf (held (given_path path)).bytes most_read bytes
text_of held path (Err failure) = IsUnread (held (given_path path)) (File path) failure

-- the agenda in the text of the file with a path, or the first line that is wrong
abbrev pub listing_in : (path text : List ℕ) → Step Listing
listing_in path text (Ok listing) = IsReading text (Ok listing)
listing_in path text (Err failure) = (failure ≡ Run NoMemory) ⊎ ((line : ℕ) × IsReading text (Err line) × (failure ≡ BadBaseline path line))

-- the agenda in the file with a path
abbrev pub baseline_of : Held → (path : List ℕ) → Step Listing
baseline_of held path = do
  text ← text_of held path
  listing_in path text
