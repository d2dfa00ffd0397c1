-- The meaning of a line, or what is wrong with it.
use Rattle.std.specs.Prelude.{◌≢◌, ℕ, Result, Ok, Err}
use Rattle.plan_grammar.specs.declared.fault.RuleFault.{RuleFault}
use Rattle.plan_grammar.specs.declared.fault.RuleCause.{RuleCause}
use Rattle.plan_grammar.specs.declared.fault.RuleCause.TheVariants as cause
use Rattle.plan_rules.specs.declared.line_fault.LineCause.{LineCause}
use Rattle.plan_rules.specs.declared.line_fault.LineCause.TheVariants.{NoMemory, Rule}
use Rattle.plan_rules.specs.declared.line_fault.LineFault.{LineFault}
use Rattle.plan_texts.specs.Steps.{GivesUnless}
use Rattle.plan_grammar.specs.Readings.{Reading}

-- ---- errors of lines

-- what a line means, or what is wrong with it
abbrev pub LineReading : Type 0 → Type 0
LineReading A = Result A LineCause

-- what a text of lines means, or its first error
abbrev pub TextReading : Type 0 → Type 0
TextReading A = Result A LineFault

-- the cause of a line whose rule has this error, by the cause of that error
abbrev pub cause_by_cause : RuleCause → RuleFault → LineCause
cause_by_cause cause.NoMemory fault = NoMemory
cause_by_cause other fault = Rule fault

-- the cause of a line whose rule has this error; a failed allocation stays a failed allocation (agenda)
abbrev pub cause_of_rule : RuleFault → LineCause
cause_of_rule fault = cause_by_cause fault.cause fault

-- a rule in a line: its error is the line's
abbrev pub in_line : {A : Type 0} → Reading A → LineReading A
in_line (Ok x) = Ok x
in_line (Err fault) = Err (cause_of_rule fault)

-- the error of a failed allocation; it has no line (agenda)
abbrev pub want_of_memory : LineFault
want_of_memory = record { line = 0; cause = NoMemory }

-- the error of the line with this number, from 1, or of the whole text, 0 (agenda)
abbrev pub fault_on_line : ℕ → LineCause → LineFault
fault_on_line number NoMemory = want_of_memory
fault_on_line number cause = record { line = number; cause = cause }

-- an error of the whole text, found before its lines are read (agenda)
abbrev pub of_whole : LineCause → LineFault
of_whole cause = fault_on_line 0 cause

-- the meaning of the line with this number, as part of the text: its error has the number
abbrev pub on_line : {A : Type 0} → ℕ → LineReading A → TextReading A
on_line number (Ok x) = Ok x
on_line number (Err cause) = Err (fault_on_line number cause)

-- the answer of a call for a line is this reading, unless an allocation failed
abbrev pub GivesLine : {A : Type 0} → Result A LineCause → LineReading A → Type 0
GivesLine answer reading = GivesUnless NoMemory (λ x. x) answer reading

-- a cause that doesn't hide a failed allocation in a rule's error
abbrev pub IsOwnCause : LineCause → Type 0
IsOwnCause (Rule fault) = fault.cause ≢ cause.NoMemory
IsOwnCause other = Unit {0}
