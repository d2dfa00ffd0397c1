-- No row of the table of jobs has more cells than a table may have.
use Rattle.std.proofs.Common.{List, [], ◌∷◌, refl}
use Rattle.std.specs.List.{flat_map}
use Rattle.agenda_table.specs.Layout.{AreShort}
use Rattle.agenda_describe.specs.Texts.{description_row, description_rows}
use Rattle.agenda_describe.specs.declared.jobs.DescribedJob.{DescribedJob}

later_short : (jobs : List DescribedJob) → AreShort (flat_map (λ job. description_row job ∷ []) jobs)
later_short [] = refl
later_short (job ∷ jobs) = later_short jobs

pub jobs_short : (jobs : List DescribedJob) → AreShort (description_rows jobs)
jobs_short jobs = later_short jobs
