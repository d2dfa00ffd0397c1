-- The meaning of a zone's file: a clock, or an error.
use Rattle.std.specs.Prelude.{◌≡◌, ◌⊎◌, ℕ, ◌<◌, List, codes, false, IsOk, IsTrue, Result, Ok, Err}
use Rattle.jiff_core.specs.declared.error.TzifFault.{TzifFault}
use Rattle.jiff_tz.specs.declared.tzif.Tzif.{Tzif}
use Rattle.jiff_tz.specs.Tzif.{tzif_view, HasBadRule, RuleAgrees}
use Rattle.jiff_tz.specs.TzifReader.{read_tzif}
use Rattle.plan_clock.specs.declared.row.Change.{Change}
use Rattle.plan_clock.specs.Rows.{offset_of}
use Rattle.plan_sets.specs.Limits.{end_second}
use Rattle.plan_texts.specs.Lines.{is_too_large}
use Rattle.plan_zones.specs.declared.zone_fault.ZoneFault.{ZoneFault}
use Rattle.plan_zones.specs.declared.zone_fault.ZoneFault.TheVariants.{NoMemory, BadZoneName, NoSuchZone, TooLarge, BadZone}
use Rattle.plan_zones.specs.Changes.{zone_offset}

-- the name of an error, as error lines show it (agenda)
abbrev pub zone_fault_name : ZoneFault → List ℕ
zone_fault_name NoMemory = codes "NoMemory"
zone_fault_name BadZoneName = codes "BadZoneName"
zone_fault_name NoSuchZone = codes "NoSuchZone"
zone_fault_name TooLarge = codes "TooLarge"
zone_fault_name BadZone = codes "BadZone"

-- jiff reads these bytes as this zone (RFC 9636)
pub record Reads (bytes : List ℕ) (zone : Tzif) : Type 0 where
  pub read : read_tzif bytes ≡ Ok (tzif_view zone)
  pub agrees : RuleAgrees zone

-- at each second in the supported years, the clock has the offset of the zone that jiff reads from the bytes (RFC 9636)
abbrev pub IsClockOf : List ℕ → List Change → Type 0
IsClockOf bytes clock =
    (zone : Tzif) × Reads bytes zone × ((second : ℕ) → second < end_second → offset_of clock second ≡ zone_offset zone second)

-- jiff rejects the bytes: their form is invalid, or the rule disagrees with the last transition of the table (RFC 9636)
abbrev pub IsBadZone : List ℕ → Type 0
IsBadZone bytes = ((fault : TzifFault) × (read_tzif bytes ≡ Err fault)) ⊎ HasBadRule (read_tzif bytes)

-- what each error says of the bytes: TooLarge, that there are more than 1,048,576 (agenda); BadZone, that there are not, and that
-- jiff rejects them; NoMemory, that there are not too many, and that jiff accepts their form; the errors of a zone's name never
-- occur here
abbrev pub Rejects : ZoneFault → List ℕ → Type 0
Rejects NoMemory bytes = (is_too_large bytes ≡ false) × IsOk (read_tzif bytes)
Rejects BadZoneName bytes = ⊥
Rejects NoSuchZone bytes = ⊥
Rejects TooLarge bytes = IsTrue (is_too_large bytes)
Rejects BadZone bytes = (is_too_large bytes ≡ false) × IsBadZone bytes

-- bytes in a form that jiff rejects give BadZone, whether or not memory is available
abbrev pub IsRejected : {A B : Type 0} → Result A TzifFault → Result B ZoneFault → Type 0
IsRejected (Ok text) result = Unit {0}
IsRejected (Err fault) result = result ≡ Err BadZone
