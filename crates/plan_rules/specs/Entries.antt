-- What the lines of a text say, each read by itself, and what they mean together: the first rejected line decides. All of it is
-- our choice (agenda).
use Rattle.std.specs.Prelude.{ℕ, List, [], ◌∷◌, Option, Some, None, Ok, Err}
use Rattle.std.specs.List.{filter_map}
use Rattle.std.specs.Result.{result_ok}
use Rattle.plan_rules.specs.declared.entry.Entry.{Entry}
use Rattle.plan_rules.specs.declared.line_fault.LineFault.{LineFault}
use Rattle.plan_rules.specs.LineFaults.{LineReading, TextReading, fault_on_line}

-- ---- one line

-- the entry of a line with this number, valid or rejected
abbrev pub entry_at : {A : Type 0} → ℕ → LineReading A → Entry A
entry_at number reading = record { line = number; read = reading }

-- the entry of the line with this number, if it says something or is rejected
abbrev pub entry_on : {A : Type 0} → ℕ → LineReading (Option A) → Option (Entry A)
entry_on number (Ok None) = None
entry_on number (Ok (Some x)) = Some (entry_at number (Ok x))
entry_on number (Err cause) = Some (entry_at number (Err cause))

-- the error of a line with this number, if it is rejected
abbrev pub fault_on : {A : Type 0} → ℕ → LineReading A → Option LineFault
fault_on number (Ok x) = None
fault_on number (Err cause) = Some (fault_on_line number cause)

-- the error of an entry, if its line is rejected
abbrev pub fault_of : {A : Type 0} → Entry A → Option LineFault
fault_of entry = fault_on entry.line entry.read

-- what an entry says, unless its line is rejected
abbrev pub given_of : {A : Type 0} → Entry A → Option A
given_of entry = result_ok entry.read

-- ---- all lines

-- the errors of all rejected lines, in order
abbrev pub faults_of : {A : Type 0} → List (Entry A) → List LineFault
faults_of entries = filter_map fault_of entries

-- what the valid lines say, in order
abbrev pub given : {A : Type 0} → List (Entry A) → List A
given entries = filter_map given_of entries

-- a text is rejected with the first error of its lines; without one it has this meaning
abbrev pub unless_faulty : {A : Type 0} → List LineFault → A → TextReading A
unless_faulty [] x = Ok x
unless_faulty (fault ∷ more) x = Err fault

-- the meaning of a text by the entries of its lines
abbrev pub meant_by : {A : Type 0} → List (Entry A) → TextReading (List A)
meant_by entries = unless_faulty (faults_of entries) (given entries)
