-- What a writer of texts has taken (agenda).
use Rattle.std.specs.Prelude.{◌≡◌, ℕ, Bool, List, [], ◌++◌, Option, Result}
use Rattle.std.specs.Borrow.{MutBor}
use Rattle.plan_streams.specs.Stream.{Puts, PutsAllBut}
use Rattle.plan_streams.specs.declared.writer.TextWriter.{TextWriter}

-- the writer has taken this text since its stream held `start`: all of it was written except what still waits, or
-- the stream broke off
abbrev pub HasTaken : {S : Type 0} → (S → Option (List ℕ)) → Bool → (start : Option (List ℕ)) → TextWriter S → List ℕ → Type 0
HasTaken holds takes_all start writer text = PutsAllBut takes_all writer.state start (holds writer.out.now) text writer.waiting

-- the writer is one to this stream, and has taken nothing
abbrev pub IsNew : {S : Type 0} → (S → Option (List ℕ)) → Bool → MutBor S → TextWriter S → Type 0
IsNew holds takes_all out writer = (writer.out.ghost_name ≡ out.ghost_name) × HasTaken holds takes_all (holds out.now) writer []

-- the writer took this text: it is one to the same stream, and what it has taken is now longer by the text
abbrev pub Takes : {S : Type 0} → (S → Option (List ℕ)) → Bool → (old new : TextWriter S) → List ℕ → Type 0
Takes holds takes_all old new text =
    (new.out.ghost_name ≡ old.out.ghost_name)
    × ((start : Option (List ℕ)) → (before : List ℕ) → HasTaken holds takes_all start old before
    → HasTaken holds takes_all start new (before ++ text))

-- the writer is one to the same stream, and all that it has taken was written if the result is Ok, else the stream
-- broke off
abbrev pub Finishes : {S A E : Type 0} → (S → Option (List ℕ)) → Bool → Result A E → (old new : TextWriter S) → Type 0
Finishes holds takes_all result old new =
    (new.out.ghost_name ≡ old.out.ghost_name)
    × ((start : Option (List ℕ)) → (text : List ℕ) → HasTaken holds takes_all start old text
    → Puts takes_all result start (holds new.out.now) text)
