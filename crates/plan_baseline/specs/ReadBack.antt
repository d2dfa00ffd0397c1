-- Agendas that were written are read back.
use Rattle.std.specs.Prelude.{◌≡◌, ◌↔◌, ℕ, ◌<◌, ◌≤◌, false, ◌==◌, List, [], ◌∷◌, Option, None, Some, Ok, IsUtf8, length, slice_get}
use Rattle.std.specs.List.{flat_map, list_any}
use Rattle.plan_sets.specs.Limits.{end_second}
use Rattle.plan_clock.specs.Rows.{AreChanges}
use Rattle.plan_rules.specs.Job.{JobParts}
use Rattle.plan_rules.specs.declared.NamedZone.{NamedZone}
use Rattle.plan_collect.specs.Agenda.{IsOfJobs, Planned}
use Rattle.plan_collect.specs.Limits.{most_entries}
use Rattle.plan_write.specs.declared.formats.Format.{Format}
use Rattle.plan_write.specs.Texts.{agenda_text, run_text}
use Rattle.plan_baseline.specs.Line.{Line, Listing}
use Rattle.plan_baseline.specs.Reading.{IsReading, Reading}

-- a text contains no such byte
abbrev pub HasNone : (byte : ℕ) → List ℕ → Type 0
HasNone byte text = list_any (λ b. b == byte) text ≡ false

-- a text can be a column of a line: it is UTF-8, and has no tab and no newline
pub record IsColumn (text : List ℕ) : Type 0 where
  pub utf8 : IsUtf8 text
  pub tab : HasNone 9 text
  pub newline : HasNone 10 text

-- the lines of a job can be read back: its name can be a column, and what it runs is UTF-8, and has no newline
pub record IsReadable (job : JobParts) : Type 0 where
  pub name : IsColumn job.name
  pub utf8 : IsUtf8 (run_text job.user job.command)
  pub newline : HasNone 10 (run_text job.user job.command)

-- each job is such a one
abbrev pub AreReadable : List JobParts → Type 0
AreReadable [] = Unit {0}
AreReadable (job ∷ jobs) = IsReadable job × AreReadable jobs

-- times are in UTC, or by the clock of a zone whose name can be a column, and isn't empty
abbrev pub IsZone : Option NamedZone → Type 0
IsZone None = Unit {0}
IsZone (Some zone) = AreChanges zone.clock × IsColumn zone.name × (0 < length zone.name)

-- the entries are in the order of their seconds, from one on and before another
abbrev pub AreInOrder : (from upto : ℕ) → List (ℕ × ℕ) → Type 0
AreInOrder from upto [] = Unit {0}
AreInOrder from upto (entry ∷ entries) = (from ≤ entry.0) × (entry.0 < upto) × AreInOrder entry.0 upto entries

-- the span is in the planner's years, and the entries are in it, in order, of these jobs, and not above their maximum
pub record IsAgenda (made : Planned) (jobs : List JobParts) : Type 0 where
  pub ordered : made.span.since ≤ made.span.upto
  pub years : made.span.upto ≤ end_second
  pub entries : AreInOrder made.span.since made.span.upto made.entries
  pub of_jobs : IsOfJobs (length jobs) made.entries
  pub few : length made.entries ≤ most_entries

-- the line of an entry of a job, if there is that job
abbrev pub line_of_job : (second : ℕ) → Option JobParts → List Line
line_of_job second None = []
line_of_job second (Some job) = record { second = second; job = job.name; runs = run_text job.user job.command } ∷ []

-- what an agenda has: its span, and the line of each entry, in order
abbrev pub listing_of : Planned → List JobParts → Listing
listing_of made jobs = record {
  span = made.span;
  lines = flat_map (λ entry. line_of_job entry.0 (slice_get jobs entry.1)) made.entries;
}

-- the text of an agenda, without delays, is read as its span and the lines of its entries, and not otherwise
abbrev pub AgendasAreReadBack : Type 0
AgendasAreReadBack = (format : Format) (made : Planned) (jobs : List JobParts)
    → format.json ≡ false → IsZone format.local → AreReadable jobs → IsAgenda made jobs
    → (reading : Reading) → IsReading (agenda_text format false made jobs) reading ↔ (reading ≡ Ok (listing_of made jobs))
