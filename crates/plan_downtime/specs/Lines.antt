-- The text of what jobs miss while the machine is down (agenda).
use Rattle.std.specs.Prelude.{ℕ, Bool, true, false, List, [], ◌++◌, codes, decimal, Option, None, Some, slice_get}
use Rattle.std.specs.List.{flat_map}
use Rattle.plan_write.specs.Texts.{EndParts}
use Rattle.plan_write.specs.TimeFields.{field_text}
use Rattle.plan_write.specs.declared.formats.Format.{Format}
use Rattle.plan_write.specs.declared.time_fields.TimeField.TheVariants.{First, Last}
use Rattle.plan_downtime.specs.Missed.{MissedParts}
use Rattle.plan_downtime.specs.Outcome.{outcome_name}

-- how many starts a job misses, and what becomes of them: two columns, or two members
abbrev pub outcome_text : (json : Bool) → MissedParts → List ℕ
outcome_text true missed =
    (codes ",\"starts\":" ++ decimal missed.count) ++ ((codes ",\"then\":\"" ++ outcome_name missed.outcome) ++ codes "\"")
outcome_text false missed = (decimal missed.count ++ codes "\t") ++ (outcome_name missed.outcome ++ codes "\t")

-- the line of what a job misses: the times of the first and the last start, how many there are, what becomes of them, and the end
-- of the job's lines
abbrev pub missed_line : Format → EndParts → MissedParts → List ℕ
missed_line format end missed =
    field_text format First (Some missed.first)
    ++ (field_text format Last (Some missed.last) ++ (outcome_text format.json missed ++ end.text))

-- the same, if there is such a job
abbrev pub line_of : Format → Option EndParts → MissedParts → List ℕ
line_of format None missed = []
line_of format (Some end) missed = missed_line format end missed

-- a line for each job that misses something, in order, by the ends of the lines of each job
abbrev pub downtime_text : Format → (ends : List EndParts) → List MissedParts → List ℕ
downtime_text format ends missed = flat_map (λ one. line_of format (slice_get ends one.job) one) missed
