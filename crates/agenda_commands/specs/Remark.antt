-- What is said about an answer, apart from the answer. All of it is our choice (agenda).
use Rattle.std.specs.Prelude.{◌≡◌, ℕ, Bool, List, Option, None, Result, Ok, Err}
use Rattle.std.specs.Result.{result_map_both}
use Rattle.agenda_cover.specs.Remark.{remark}
use Rattle.plan_collect.specs.Agenda.{Planned}
use Rattle.plan_write.specs.Quiet.{quiet_text}
use Rattle.plan_rules.specs.Delays.{counted}
use Rattle.plan_rules.specs.Job.{JobParts}
use Rattle.agenda_faults.specs.declared.faults.RunFault.{RunFault}
use Rattle.agenda_commands.specs.Goal.{agenda_of_jobs}
use Rattle.agenda_commands.specs.Table.{IsQuietTable}
use Rattle.agenda_commands.specs.declared.goal.Goal.{Goal}
use Rattle.agenda_commands.specs.declared.goal.Goal.TheVariants as goal
use Rattle.agenda_commands.specs.declared.prepare.Form.{Form}
use Rattle.agenda_commands.specs.declared.prepare.Form.TheVariants as form
use Rattle.agenda_commands.specs.declared.prepare.RemarkedAnswer.{RemarkedAnswer}

-- why the agenda of a plan has no gap of at least `least` seconds, if it has none
abbrev pub remark_of_plan : (least : ℕ) → Result Planned RunFault → List JobParts → Option (List ℕ)
remark_of_plan least (Err fault) jobs = None
remark_of_plan least (Ok made) jobs = remark least made jobs

-- what is said about the answer for jobs: why there is no gap, where gaps are searched for
abbrev pub remark_of : Goal → List JobParts → Option (List ℕ)
remark_of (goal.Quiet planning least) jobs =
    remark_of_plan least (agenda_of_jobs (counted planning.delays jobs) planning) (counted planning.delays jobs)
remark_of other jobs = None

-- this is the text of the gaps of an agenda of jobs, in a form
abbrev pub IsOfGaps : Form → (least : ℕ) → Planned → List JobParts → List ℕ → Type 0
IsOfGaps (form.Lines format) least made jobs text = text ≡ quiet_text format least made jobs
IsOfGaps (form.Table table) least made jobs text = IsQuietTable table least made jobs text

-- an answer about which nothing is said, but whether it is a first entry
abbrev pub unremarked : Result (List ℕ × Bool) RunFault → Result RemarkedAnswer RunFault
unremarked answer = result_map_both (λ made. record { answer = made.0; remark = None; finds_any = made.1 }) (λ fault. fault) answer
