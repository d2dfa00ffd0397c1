-- What is read from a file. All of it is our choice (agenda).
use Rattle.std.specs.Prelude.{◌≡◌, ◌≢◌, ◌⊎◌, ⊤, ℕ, Bool, false, List, take, Option, None, Some, Ok, Err}
use Rattle.std.specs.declared.io.ErrorKind.{ErrorKind}
use Rattle.std.specs.declared.io.ErrorKind.TheVariants.{OutOfMemory}
use Rattle.agenda_faults.specs.declared.faults.RunFault.TheVariants as run
use Rattle.agenda_faults.specs.declared.faults.Failure.{Failure}
use Rattle.agenda_faults.specs.declared.faults.Failure.TheVariants.{Run}
use Rattle.agenda_inputs.specs.Steps.{Step}

-- what is known of a file: its bytes, and whether it can be opened and read unless an allocation fails
pub record KnownFile : Type 0 where
  pub bytes : Option (List ℕ)
  pub is_readable : Bool

-- nothing is known: it may fail
abbrev pub unknown : KnownFile
unknown = record { bytes = None; is_readable = false }

-- what is known of the file with each path
abbrev pub Held : Type 0
Held = List ℕ → KnownFile

-- a file that may fail: it isn't known to be readable
abbrev pub IsUnsure : KnownFile → Type 0
IsUnsure known = known.is_readable ≡ false

-- opening or reading a file may give an error of this kind: a file that is known to be readable only gives out of memory
abbrev pub MayFail : KnownFile → ErrorKind → Type 0
MayFail known kind = kind ≢ OutOfMemory → IsUnsure known

-- the first bytes of a file, at most this number, if its bytes are known
abbrev pub IsFrontOf : Option (List ℕ) → (most : ℕ) → List ℕ → Type 0
IsFrontOf None most bytes = ⊤
IsFrontOf (Some held) most bytes = bytes ≡ take most held

-- the bytes of a file, if they are known
abbrev pub IsHeld : Option (List ℕ) → List ℕ → Type 0
IsHeld None bytes = ⊤
IsHeld (Some held) bytes = bytes ≡ held

-- the maximum number of bytes that are read: one more than the limit of every input
abbrev pub most_read : ℕ
most_read = 1048577

-- a file can't be read: an allocation failed, or the file may fail, which is this failure
abbrev pub IsUnread : KnownFile → (unread : Failure) → Failure → Type 0
IsUnread file unread failure = (failure ≡ Run run.NoMemory) ⊎ ((failure ≡ unread) × IsUnsure file)

-- the first bytes of a file are read
abbrev pub front_of : KnownFile → (unread : Failure) → Step (List ℕ)
front_of file unread (Ok bytes) = IsFrontOf file.bytes most_read bytes
front_of file unread (Err failure) = IsUnread file unread failure

-- a whole file is read
abbrev pub whole_of : KnownFile → (unread : Failure) → Step (List ℕ)
whole_of file unread (Ok bytes) = IsHeld file.bytes bytes
whole_of file unread (Err failure) = IsUnread file unread failure
