-- Readings of the texts of rules: what a part of a text means, or what is wrong with the text.
use Rattle.std.specs.Prelude.{ℕ, Result, Err}
use Rattle.plan_texts.specs.Steps.{GivesUnless}
use Rattle.plan_grammar.specs.declared.fault.RuleFault.{RuleFault}
use Rattle.plan_grammar.specs.declared.fault.RuleCause.{RuleCause}
use Rattle.plan_grammar.specs.declared.fault.RuleCause.TheVariants.{NoMemory}

-- what a part of a rule's text means, or what is wrong with the text
abbrev pub Reading : Type 0 → Type 0
Reading A = Result A RuleFault

-- the error of a part of a rule's text (agenda)
abbrev pub rejected : {A : Type 0} → ℕ → RuleCause → Reading A
rejected part cause = Err (record { part = part; cause = cause })

-- an allocation failed: an error with part 0 (agenda)
abbrev pub out_of_memory : RuleFault
out_of_memory = record { part = 0; cause = NoMemory }

-- the result of a call, as `view` shows it, is this reading, unless an allocation failed (agenda)
abbrev pub GivesBy : {A B : Type 0} → (A → B) → Result A RuleFault → Reading B → Type 0
GivesBy view answer reading = GivesUnless out_of_memory view answer reading

-- the result of a call is this reading, unless an allocation failed
abbrev pub Gives : {A : Type 0} → Result A RuleFault → Reading A → Type 0
Gives answer reading = GivesBy (λ x. x) answer reading
