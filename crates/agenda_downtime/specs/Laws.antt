-- The laws of the table of what jobs miss (agenda).
use Rattle.std.specs.Prelude.{◌≡◌, ◌+◌, List, length, map}
use Rattle.plan_collect.specs.Agenda.{Planned}
use Rattle.plan_rules.specs.Job.{JobParts}
use Rattle.plan_downtime.specs.Downtime.{missed_starts}
use Rattle.plan_downtime.specs.declared.outcome.Outcome.TheVariants.{AtBoot, Lost, MadeUp}
use Rattle.agenda_downtime.specs.Last.{count_with}
use Rattle.agenda_downtime.specs.Rows.{MissedTexts, missed_texts}

-- each job that misses something has a row, and the rows are in the same order
abbrev pub EachHasRow : Type 0
EachHasRow = (jobs : List JobParts) (made : Planned)
    → map (λ row. row.missed) (missed_texts jobs (missed_starts jobs made)) ≡ missed_starts jobs made

-- the numbers of rows with each outcome add up to the number of rows
abbrev pub OutcomesAddUp : Type 0
OutcomesAddUp = (rows : List MissedTexts)
    → count_with Lost rows + (count_with MadeUp rows + count_with AtBoot rows) ≡ length rows
