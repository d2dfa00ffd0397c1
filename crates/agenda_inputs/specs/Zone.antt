-- The clock of the given zone, by its text. All of it is our choice (agenda).
use Rattle.std.specs.Prelude.{◌≡◌, ℕ, List, [], Option, None, Some, Result, Ok, Err}
use Rattle.plan_clock.specs.declared.row.Change.{Change}
use Rattle.plan_zones.specs.declared.zone_fault.ZoneFault.{ZoneFault}
use Rattle.plan_zones.specs.declared.zone_fault.ZoneFault.TheVariants.{NoSuchZone}
use Rattle.plan_zones.specs.Zones.{IsClockOf, Rejects}
use Rattle.plan_zones.specs.ZoneTexts.{Source, Utc, Path, Name, source_of, zone_path}
use Rattle.agenda_faults.specs.Faults.{failure_of_zone}
use Rattle.agenda_faults.specs.declared.faults.Failure.{Failure}
use Rattle.agenda_faults.specs.declared.faults.Failure.TheVariants.{File, Zone}
use Rattle.agenda_inputs.specs.Files.{Held, KnownFile, front_of}
use Rattle.agenda_inputs.specs.Steps.{Step, fails, gives, ◌>>=◌}

-- the clock of a zone's file, by the bytes of the file
abbrev pub clock_of_bytes : List ℕ → Step (List Change)
clock_of_bytes bytes (Ok clock) = IsClockOf bytes clock
clock_of_bytes bytes (Err failure) = (fault : ZoneFault) × Rejects fault bytes × (failure ≡ failure_of_zone fault)

-- the clock of a zone's file, with the failure if it can't be opened or read
abbrev pub clock_of_file : KnownFile → (unread : Failure) → Step (List Change)
clock_of_file file unread = do
  bytes ← front_of file unread
  clock_of_bytes bytes

-- the clock of a zone, by the source of its changes: UTC, a path or a name. There is no zone for a name if there is no file for it
abbrev pub clock_from : Held → Result Source ZoneFault → Step (List Change)
clock_from held (Ok Utc) = gives []
clock_from held (Ok (Path path)) = clock_of_file (held path) (File path)
clock_from held (Ok (Name name)) = clock_of_file (held (zone_path name)) (Zone NoSuchZone)
clock_from held (Err fault) = fails (Zone fault)

-- the clock of the given zone; without a zone it is the clock of UTC
abbrev pub clock_of : Held → Option (List ℕ) → Step (List Change)
clock_of held None = gives []
clock_of held (Some text) = clock_from held (source_of text)
