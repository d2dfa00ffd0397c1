-- What is said in words of a rule that may end with a zone of the machine that the program runs on. All of it is our choice (agenda).
use Rattle.std.specs.Prelude.{ℕ, Bool, true, [], None, Result, Ok, Err}
use Rattle.agenda_commands.specs.Describe.{sentence_output}
use Rattle.agenda_faults.specs.declared.faults.Failure.{Failure}
use Rattle.agenda_faults.specs.declared.faults.RunFault.{RunFault}
use Rattle.agenda_faults.specs.Status.{done_status}
use Rattle.agenda_sources.specs.ZoneNames.{asked_zones}
use Rattle.agenda_sources.specs.declared.Asked.{Asked}
use Rattle.agenda_sources.specs.declared.TimeZones.{TimeZones}
use Rattle.agenda_inputs.specs.EventZones.{time_zones}
use Rattle.agenda_inputs.specs.Files.{Held}
use Rattle.agenda_inputs.specs.MachineFiles.{machine_files}
use Rattle.agenda_inputs.specs.MachineZone.{KnownTree}
use Rattle.agenda_inputs.specs.Steps.{Step}
use Rattle.agenda_answers.specs.Answer.{Leaves, StreamChange, outputs, status_after}
use Rattle.agenda_answers.specs.Host.{KnownHost}
use Rattle.agenda_answers.specs.Machine.{tree_below}
use Rattle.agenda_answers.specs.MachineNext.{ExitsInWords}
use Rattle.agenda_answers.specs.Outcome.{ExitsWith}

-- the zone that the rule may end with is read from the machine's files
abbrev pub zones_at : Held → KnownTree → Asked → Step TimeZones
zones_at held tree rule = time_zones (machine_files held tree) (record { zone = None; event_zones = true }) [] (asked_zones rule)

-- the sentence of the rule, and an invalid rule is reported in words
abbrev pub LeavesSentence : Asked → TimeZones → (json : Bool) → ℕ → (out err : StreamChange) → Type 0
LeavesSentence rule zones json status out err =
    (run : Result (Unit {0}) RunFault)
    × Leaves out.takes_all (outputs done_status (sentence_output zones.timers.zones rule json)) (status_after run) out.old out.new
    × ExitsInWords rule run status err

-- the same, unless an allocation failed before
abbrev pub SentenceOrFails : Asked → (json : Bool) → Result TimeZones Failure → ℕ → (out err : StreamChange) → Type 0
SentenceOrFails rule json (Ok zones) status out err = LeavesSentence rule zones json status out err
SentenceOrFails rule json (Err failure) status out err = ExitsWith [] (Err failure) status out err

-- the answer to a question
abbrev pub AnswersRule : Held → KnownHost → Asked → (json : Bool) → ℕ → (out err : StreamChange) → Type 0
AnswersRule held host rule json status out err =
    (end : Result TimeZones Failure) × zones_at held (tree_below host.tree []) rule end × SentenceOrFails rule json end status out err
