-- Steps in sequence: the first error ends them. A reading is the value that a text means, or its first error.
use Rattle.std.specs.Prelude.{◌≡◌, ◌≢◌, List, [], ◌∷◌, Result, Ok, Err}

-- one step after another: if the first fails, its error is the result
infixl 10 ◌>>=◌
abbrev pub ◌>>=◌ : {A B E : Type 0} → Result A E → (A → Result B E) → Result B E
Ok x >>= next = next x
Err fault >>= next = Err fault

-- the meanings of all elements of a list, read from left to right; the first error ends the reading
abbrev pub each : {A B E : Type 0} → (A → Result B E) → List A → Result (List B) E
each meaning [] = Ok []
each meaning (x ∷ xs) = do
  y ← meaning x
  ys ← each meaning xs
  Ok (y ∷ ys)

-- the result of a call, as `view` shows it, is this reading, unless the error is that an allocation failed (agenda)
abbrev pub GivesUnless : {A B E : Type 0} → E → (A → B) → Result A E → Result B E → Type 0
GivesUnless memory view (Ok x) reading = reading ≡ Ok (view x)
GivesUnless memory view (Err fault) reading = fault ≢ memory → reading ≡ Err fault
