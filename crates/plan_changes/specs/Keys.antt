-- The keys of starts: their seconds, and the numbers of what they run.
use Rattle.std.specs.Prelude.{◌≡◌, ℕ, ◌<◌, ◌==◌, ◌&&◌, Bool, List, Some, count_by, length, slice_get, slice_index, unwrap_or}
use Rattle.std.specs.List.Sorted.{IsNonDecreasingBy}
use Rattle.plan_baseline.specs.Line.{Line}
use Rattle.plan_changes.specs.declared.keys.Key.{Key}
use Rattle.plan_changes.specs.Lines.{texts_at}

-- this is the key of a start: it has its second, and the number of what the start runs
abbrev pub IsKeyOf : (texts : List (List ℕ)) → Line → Key → Type 0
IsKeyOf texts line key = (key.second ≡ line.second) × (slice_get texts key.runs ≡ Some line.runs)

-- these are the keys of starts, in order: as many, and each that of the start at its place
pub record AreKeysOf (texts : List (List ℕ)) (lines : List Line) (keys : List Key) : Type 0 where
  pub many : length keys ≡ length lines
  pub are : (place : ℕ) (key : Key) → slice_get keys place ≡ Some key → (line : Line) × (slice_get lines place ≡ Some line) × IsKeyOf texts line key

-- no text has two numbers
abbrev pub AreEachOnce : (texts : List (List ℕ)) → Type 0
AreEachOnce texts =
    (one other : ℕ) (text : List ℕ) → slice_get texts one ≡ Some text → slice_get texts other ≡ Some text → one ≡ other

-- each text keeps its number
abbrev pub HaveStayed : (old new : List (List ℕ)) → Type 0
HaveStayed old new = (number : ℕ) (text : List ℕ) → slice_get old number ≡ Some text → slice_get new number ≡ Some text

-- the key of a start that has the number of what it runs
abbrev pub key_of_start : (start : ℕ × ℕ) → Key
key_of_start start = record { second = start.0; runs = start.1 }

-- the key of an entry, by the numbers of what jobs run; other jobs run the empty text, whose number is given, too
abbrev pub key_of_entry : (numbers : List ℕ) (empty : ℕ) → (entry : ℕ × ℕ) → Key
key_of_entry numbers empty entry = record { second = entry.0; runs = unwrap_or (slice_get numbers entry.1) empty }

-- these are the numbers of what jobs run, by the numbers of the jobs
pub record AreNumbersOf (texts : List (List ℕ)) (jobs : List (List ℕ × List ℕ)) (numbers : List ℕ) : Type 0 where
  pub many : length numbers ≡ length jobs
  pub are : (job : ℕ) → job < length numbers → slice_get texts (slice_index numbers job) ≡ Some (texts_at jobs job).1

-- two keys are the same
abbrev pub is_same_key : (one other : Key) → Bool
is_same_key one other = one.second == other.second && one.runs == other.runs

-- how often a key is in a list
abbrev pub copies_of : Key → List Key → ℕ
copies_of key keys = count_by (is_same_key key) keys

-- keys are in the order of their seconds
abbrev pub AreInOrder : List Key → Type 0
AreInOrder keys = IsNonDecreasingBy (λ key. key.second) keys

-- keys are in order, and each number is below a bound
pub record AreUsable (bound : ℕ) (keys : List Key) : Type 0 where
  pub ordered : AreInOrder keys
  pub below : (place : ℕ) (key : Key) → slice_get keys place ≡ Some key → key.runs < bound
