-- The next starts of one rule in a form: as lines, or as a table. All of it is our choice (agenda).
use Rattle.std.specs.Prelude.{◌≡◌, ℕ, ◌+◌, take, List, Result, Ok, Err}
use Rattle.plan_match.specs.declared.rule.Rule.{Rule}
use Rattle.plan_texts.specs.Steps.{◌>>=◌}
use Rattle.plan_next.specs.Starts.{starts}
use Rattle.plan_sets.specs.Limits.{end_second}
use Rattle.agenda_faults.specs.declared.faults.RunFault.{RunFault}
use Rattle.agenda_faults.specs.Faults.{fault_of_rule}
use Rattle.agenda_sources.specs.declared.Asked.{Asked}
use Rattle.agenda_sources.specs.declared.TimeZones.{TimeZones}
use Rattle.agenda_commands.specs.Command.{step}
use Rattle.agenda_commands.specs.Next.{asked_reading, next_output, valid_count}
use Rattle.agenda_commands.specs.Table.{IsStartsTable}
use Rattle.agenda_commands.specs.declared.prepare.Form.{Form}
use Rattle.agenda_commands.specs.declared.prepare.Form.TheVariants as form
use Rattle.agenda_commands.specs.declared.table.TableForm.{TableForm}

-- the first starts of a rule after a time, as many as are requested
abbrev pub next_starts : Rule → (after count : ℕ) → List ℕ
next_starts rule after count = take count (starts rule (after + 1) end_second)

-- the requested rule: the count is checked first, then the rule
abbrev pub counted_rule : TimeZones → Asked → (count : ℕ) → Result Rule RunFault
counted_rule zones asked count = do
  many ← valid_count count
  step fault_of_rule (asked_reading zones asked)

-- the table of the next starts of a rule, or the error of the rule
abbrev pub AnswersRule : TableForm → (after count : ℕ) → Result Rule RunFault → Result (List ℕ) RunFault → Type 0
AnswersRule form after count (Ok rule) (Ok text) = IsStartsTable form after count (next_starts rule after count) text
AnswersRule form after count (Err fault) (Err found) = fault ≡ found
AnswersRule form after count rule answer = ⊥

-- the next starts of the requested rule in a form
abbrev pub AnswersStarts : Form → TimeZones → Asked → (after count : ℕ) → Result (List ℕ) RunFault → Type 0
AnswersStarts (form.Lines format) zones asked after count answer = next_output zones asked after count format ≡ answer
AnswersStarts (form.Table table) zones asked after count answer = AnswersRule table after count (counted_rule zones asked count) answer
