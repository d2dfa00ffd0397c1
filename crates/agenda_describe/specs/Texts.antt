-- The texts of descriptions of jobs (agenda).
use Rattle.std.specs.Prelude.{ℕ, Bool, true, false, List, [], ◌∷◌, ◌++◌, chars, codes, decimal}
use Rattle.std.specs.List.{flat_map}
use Rattle.plan_write.specs.Json.{json_string}
use Rattle.plan_write.specs.Texts.{user_member}
use Rattle.agenda_table.specs.Last.{plural}
use Rattle.agenda_describe.specs.declared.jobs.DescribedJob.{DescribedJob}

-- ---- lines

-- a line of text: the name, the sentence, and what the job runs
abbrev pub description_line : DescribedJob → List ℕ
description_line job = (job.name ++ codes "\t") ++ ((job.rule ++ codes "\t") ++ (job.runs ++ codes "\n"))

-- an object in JSON
abbrev pub description_head : DescribedJob → List ℕ
description_head job = codes "{\"job\":" ++ (json_string job.name ++ (codes ",\"rule\":" ++ json_string job.rule))

abbrev pub description_tail : DescribedJob → List ℕ
description_tail job = codes ",\"run\":" ++ (json_string job.command ++ codes "}\n")

abbrev pub description_object : DescribedJob → List ℕ
description_object job = description_head job ++ (user_member job.user ++ description_tail job)

abbrev pub description_text : (json : Bool) → DescribedJob → List ℕ
description_text true job = description_object job
description_text false job = description_line job

-- the lines of jobs, in order
abbrev pub descriptions_text : (json : Bool) → List DescribedJob → List ℕ
descriptions_text json jobs = flat_map (description_text json) jobs

-- the line of the sentence of a rule that is given by itself
abbrev pub sentence_text : (json : Bool) → (sentence : List ℕ) → List ℕ
sentence_text true sentence = codes "{\"rule\":" ++ (json_string sentence ++ codes "}\n")
sentence_text false sentence = sentence ++ codes "\n"

-- ---- the table

-- the cells of these texts, in the columns of the table
abbrev pub description_cells : (name rule runs : List ℕ) → List (List ℕ)
description_cells name rule runs = chars name ∷ chars rule ∷ chars runs ∷ []

abbrev pub description_row : DescribedJob → List (List ℕ)
description_row job = description_cells job.name job.rule job.runs

-- the rows of the table, the head first
abbrev pub description_rows : List DescribedJob → List (List (List ℕ))
description_rows jobs =
    description_cells (codes "JOB") (codes "STARTS") (codes "RUNS") ∷ flat_map (λ job. description_row job ∷ []) jobs

-- the last line: how many jobs there are, and the zone of their times
abbrev pub jobs_text : (count : ℕ) → (zone : List ℕ) → List ℕ
jobs_text count zone = decimal count ++ (codes " job" ++ (plural count ++ (codes ", " ++ zone)))
