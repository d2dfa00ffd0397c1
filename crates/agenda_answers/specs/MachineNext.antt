-- The next starts of a rule by the clock of the machine that the program runs on. All of it is our choice (agenda).
use Rattle.std.specs.Prelude.{◌≡◌, ◌⊎◌, ℕ, true, codes, List, [], Option, Result, Ok, Err}
use Rattle.std.specs.Io.KnownBytes.{Appends, Keeps}
use Rattle.plan_streams.specs.Stream.{BreaksOff, PutsOrBreaksOff}
use Rattle.agenda_arguments.specs.declared.MachineNext.{MachineNext}
use Rattle.agenda_commands.specs.Form.{origin_at}
use Rattle.agenda_commands.specs.Next.{valid_count}
use Rattle.agenda_commands.specs.NextTable.{AnswersStarts}
use Rattle.agenda_faults.specs.declared.faults.Failure.{Failure}
use Rattle.agenda_faults.specs.declared.faults.RunFault.{RunFault}
use Rattle.agenda_faults.specs.declared.faults.RunFault.TheVariants.{Rule}
use Rattle.agenda_faults.specs.declared.machine_faults.NumberOption.TheVariants.{Count}
use Rattle.agenda_faults.specs.Status.{failed_status, rejected_status}
use Rattle.agenda_findings.specs.Rules.{rule_line}
use Rattle.agenda_machine.specs.Reports.{no_zone}
use Rattle.agenda_sources.specs.ZoneNames.{asked_zones}
use Rattle.agenda_sources.specs.declared.Asked.{Asked}
use Rattle.agenda_answers.specs.declared.machine_next.NextStarts.{NextStarts}
use Rattle.agenda_answers.specs.Answer.{Exits, Leaves, StreamChange, answers_if, status_after}
use Rattle.agenda_inputs.specs.EventZones.{time_zones}
use Rattle.agenda_inputs.specs.Files.{Held}
use Rattle.agenda_inputs.specs.MachineFiles.{machine_files}
use Rattle.agenda_answers.specs.Formats.{form_made, unnamed_zone}
use Rattle.agenda_answers.specs.Host.{KnownHost}
use Rattle.agenda_answers.specs.Machine.{host_below}
use Rattle.agenda_answers.specs.MachineGoal.{after_at, number_in}
use Rattle.agenda_inputs.specs.MachineZone.{machine_clock}
use Rattle.agenda_answers.specs.Outcome.{ExitsWith}
use Rattle.agenda_inputs.specs.Steps.{Step, gives, ◌>>=◌}

-- what the starts are listed by: the zone of the machine is read first, then the time and how many are listed, and then the zone that an
-- event ends with, from the machine's files
abbrev pub starts_at : Held → KnownHost → MachineNext → Step NextStarts
starts_at held host next = do
  clock ← machine_clock held host.tree next.zone
  after ← after_at host.time clock.clock next.after
  count ← number_in Count next.count
  zones ← time_zones (machine_files held host.tree) (record { zone = clock.name; event_zones = true }) clock.clock (asked_zones next.rule)
  form ← form_made (record { format = next.format; table = next.table }) (origin_at after host.time) host.frame clock.name
      (unnamed_zone clock.is_of_file) zones.clock
  gives (record { zones = zones; after = after; form = form; is_zone_unknown = clock.is_unknown })

-- the exit status, and standard error: an invalid rule is reported in words
abbrev pub ExitsInWords : Asked → Result (Unit {0}) RunFault → (status : ℕ) → StreamChange → Type 0
ExitsInWords asked (Err (Rule fault)) found err =
    (found ≡ rejected_status) × PutsOrBreaksOff err.takes_all err.old err.new (rule_line asked fault)
ExitsInWords asked run found err = Exits [] (status_after run) found err

-- the starts are those that `next` lists, from the same time on
abbrev pub ListsStarts : MachineNext → NextStarts → ℕ → (out err : StreamChange) → Type 0
ListsStarts next starts status out err =
    (run : Result (Unit {0}) RunFault)
    × Leaves out.takes_all
    (answers_if (valid_count next.count) (AnswersStarts starts.form starts.zones next.rule starts.after next.count))
    (status_after run) out.old out.new
    × ExitsInWords next.rule run status err

-- standard error breaks off in the line that the zone is unknown, and nothing is printed; or it takes that, and the starts follow
abbrev pub ShowsStarts : MachineNext → NextStarts → ℕ → (out err : StreamChange) → Type 0
ShowsStarts next starts status out err =
    ((starts.is_zone_unknown ≡ true) × BreaksOff err.takes_all err.old err.new (no_zone starts.is_zone_unknown (codes "/"))
    × (status ≡ failed_status) × Keeps out.old out.new)
    ⊎ ((mid : Option (List ℕ)) × Appends err.old mid (no_zone starts.is_zone_unknown (codes "/"))
    × ListsStarts next starts status out (record err { old = mid }))

-- the same, unless the zone, the time or the number of starts is rejected
abbrev pub ShowsOrFails : MachineNext → Result NextStarts Failure → ℕ → (out err : StreamChange) → Type 0
ShowsOrFails next (Ok starts) status out err = ShowsStarts next starts status out err
ShowsOrFails next (Err failure) status out err = ExitsWith [] (Err failure) status out err

-- the answer to a question
abbrev pub AnswersNext : Held → KnownHost → MachineNext → ℕ → (out err : StreamChange) → Type 0
AnswersNext held host next status out err =
    (end : Result NextStarts Failure) × starts_at held (host_below host []) next end × ShowsOrFails next end status out err
