-- Steps that may fail, one after another. All of it is our choice (agenda).
use Rattle.std.specs.Prelude.{◌≡◌, Result, Ok, Err}
use Rattle.agenda_faults.specs.declared.faults.Failure.{Failure}
use Rattle.agenda_faults.specs.declared.faults.Failure.TheVariants.{Run}
use Rattle.agenda_faults.specs.declared.faults.RunFault.TheVariants.{NoMemory}

-- what a step may end with: a value or a failure. It is a relation, because files may hold anything and each allocation may fail
abbrev pub Step : Type 0 → Type 1
Step X = Result X Failure → Type 0

-- the step ends with this value
abbrev pub gives : {X : Type 0} → X → Step X
gives x end = end ≡ Ok x

-- the step ends with this failure
abbrev pub fails : {X : Type 0} → Failure → Step X
fails failure end = end ≡ Err failure

-- the value is computed: only an allocation can fail
abbrev pub computes : {X : Type 0} → X → Step X
computes x (Ok y) = y ≡ x
computes x (Err failure) = failure ≡ Run NoMemory

infixl 10 ◌>>=◌
-- one step after another: a failure of the first is that of both, and otherwise the second goes on with its value
pub data ◌>>=◌ {X Y : Type 0} (step : Step X) (next : X → Step Y) (end : Result Y Failure) : Type 0 where
  stops : (failure : Failure) → step (Err failure) → end ≡ Err failure → ◌>>=◌ step next end
  goes : (x : X) → step (Ok x) → next x end → ◌>>=◌ step next end
