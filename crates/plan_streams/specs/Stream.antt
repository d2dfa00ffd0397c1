-- What a stream holds after a text is put on it (agenda).
use Rattle.std.specs.Prelude.{◌≡◌, ℕ, ◌≤◌, ◌⊎◌, Bool, false, List, ◌++◌, length, take, Option, Result, Ok, Err}
use Rattle.std.specs.Io.KnownBytes.{Appends}
use Rattle.std.specs.declared.io.ErrorKind.{ErrorKind}
use Rattle.std.specs.declared.io.ErrorKind.TheVariants.{BrokenPipe}
use Rattle.plan_streams.specs.declared.stream.WriteFault.{WriteFault}
use Rattle.plan_streams.specs.declared.stream.WriteFault.TheVariants.{Closed, Device}

-- why a text was not written, by the kind of the writer's error: a pipe whose reader has gone is closed (write(2), EPIPE)
abbrev pub fault_of_kind : ErrorKind → WriteFault
fault_of_kind BrokenPipe = Closed
fault_of_kind kind = Device

-- the stream took the first bytes of a text, any number of them
abbrev pub AppendsPrefix : (old new : Option (List ℕ)) → List ℕ → Type 0
AppendsPrefix old new text = (k : ℕ) × (k ≤ length text) × Appends old new (take k text)

-- the stream failed, which one that takes everything never does, and took the first bytes of a text
abbrev pub BreaksOff : Bool → (old new : Option (List ℕ)) → List ℕ → Type 0
BreaksOff takes_all old new text = (takes_all ≡ false) × AppendsPrefix old new text

-- the stream took the whole text if the result is Ok, else it broke off
abbrev pub Puts : {A E : Type 0} → Bool → Result A E → (old new : Option (List ℕ)) → List ℕ → Type 0
Puts takes_all (Ok done) old new text = Appends old new text
Puts takes_all (Err fault) old new text = BreaksOff takes_all old new text

-- the stream took the whole text, or broke off
abbrev pub PutsOrBreaksOff : Bool → (old new : Option (List ℕ)) → List ℕ → Type 0
PutsOrBreaksOff takes_all old new text = Appends old new text ⊎ BreaksOff takes_all old new text

-- the stream took all of a text except what still waits
pub record AppendsAllBut (old new : Option (List ℕ)) (text waiting : List ℕ) : Type 0 where
  pub front : List ℕ
  pub all : text ≡ front ++ waiting
  pub written : Appends old new front

-- the stream took all of a text except what still waits if the result is Ok, else it broke off
abbrev pub PutsAllBut : {A E : Type 0} → Bool → Result A E → (old new : Option (List ℕ)) → (text waiting : List ℕ) → Type 0
PutsAllBut takes_all (Ok done) old new text waiting = AppendsAllBut old new text waiting
PutsAllBut takes_all (Err fault) old new text waiting = BreaksOff takes_all old new text
